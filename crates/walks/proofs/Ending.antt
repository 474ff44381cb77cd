-- What is had of the `post` of a callee that ends with a last value of what it was lent. It says nothing of the crate.
--     some_ended       where the callee's clause says the last value z, and φ of the result: what it hands back, what says that value (`Last z`), and the relation of some r with φ r to the machine value
-- Assumes `Logic`.
use mathlib.Core.Path.{◌≡◌, refl}
use mathlib.Core.List.{[], ◌∷◌}
use seplogic.Ra.Ura.{Ura}
use mir.Val.{Val}
use base.Logic.{SProp, ent, sep, ex}
use base.Fml.{Fml}
use types.Logic.{Logic, sem}
use contract.Monad.{fact, fact_i}
use types.Kit.{Item, ‵, raw, ◌⊛◌, some, later, mean, ◌$◌, ◌∵◌, !, qed, by, move, use1, drop, split, join, pick, rewrite, frame, show, await, updating, now as at_once}
use denote.RattleType.{RattleType}
use denote.Laws.{Is, shows}
use denote.Steps.{heard, peeks}

-- Z is what the contract binds as last values, and Lasts what says them
module _ {M : Type 1} {𝓤 : Ura M} (𝓛 : Logic 𝓤) (R : RattleType) (X : Type 0) (Last : X → Fml) (z : X) (v : Val) (Back : Item 𝓤) (Z : Type 0) (last : Z → X) (Lasts : Z → Fml) (Says : R.Denot → X → Type 0)
    (tells : (w : Z) → ent 𝓤 (sem 𝓛 (Lasts w)) (sem 𝓛 (Last (last w)))) where
  open 𝓛 use {H}

  abbrev pub PostOf : SProp 𝓤
  PostOf = H.⇛ (ex 𝓤 (λ (r : R.Denot). sep 𝓤 (sep 𝓤 (mean 𝓛 Back) (sem 𝓛 (R.own_val r (v ∷ [])))) (ex 𝓤 (λ (w : Z). sep 𝓤 (sem 𝓛 (Lasts w)) (fact 𝓤 (Says r (last w)))))))

  abbrev pub Hands : (R.Denot → Type 0) → R.Denot → SProp 𝓤
  Hands φ r = sep 𝓤 (mean 𝓛 (Back ⊛ ‵ (Last z))) (fact 𝓤 (φ r × Is R r (v ∷ [])))

  pub some_ended : (φ : R.Denot → Type 0) → ((r : R.Denot) (u : X) → Says r u → (u ≡ z) × φ r) → ent 𝓤 PostOf (H.⇛ (ex 𝓤 (Hands φ)))
  some_ended φ means =
      qed 𝓛 (later (some (λ (r : R.Denot). (Back ⊛ ‵ (R.own_val r (v ∷ []))) ⊛ some (λ (w : Z). ‵ (Lasts w) ⊛ raw (fact 𝓤 (Says r (last w)))))) ∷ []) ∵ updating ! $ await ! tt $ pick ! (λ r.
      split ! $ move ! (1 ∷ []) $ pick ! (λ w. split ! $ move ! (1 ∷ []) $ heard ! (Says r (last w)) (λ e. use1 𝓛 (‵ (Last (last w))) (tells w) $ rewrite ! 0 (λ (u : X). ‵ (Last u)) (means r (last w) e).0 refl $
      -- [the last value; what is handed back and the result]
      move ! (1 ∷ []) $ split ! $ move ! (1 ∷ []) $ peeks ! R (Is R) (shows 𝓛 R) r (v ∷ []) (λ is. drop ! $ at_once ! $ show ! (Hands φ) r $ join ! $ frame ! $ by ! (fact_i 𝓤 (φ r × Is R r (v ∷ [])) _ ((means r (last w) e).1, is))))))
