-- A local that is lent as a `&mut T` for a call, and is the holder's again. It says nothing of the crate.
--     calls_with_value     from the local's own cell and what else goes to the callee (`more`) at the head of the context; they come back as the cell at z and what the callee hands back (`left`). While the operands are read the first two entries are the callee's `pre` and the lender's part, so every other entry stands where it stood
-- T has one MIR type and owns only facts (`makes`). The callee's contract says φ of what it returns (`Calls.antt`'s `calls_some`) and the last value z.
-- Assumes `Logic`.
use mathlib.Core.Path.{◌≡◌, refl, subst}
use Prim.Native.Nat.{ℕ}
use mathlib.Core.List.{List, [], ◌∷◌}
use seplogic.Ra.Ura.{Ura}
use base.Fraction.{full_share}
use mir.Syntax.{Callee, named, Ty, Place, Opd as Operand, Body as Code, seq, call}
use mir.Val.{Val, vptr}
use base.Logic.{ent, sep, ex}
use base.Fml.{Lft, GName, fsep, fat, flent, flft, fres}
use prog.Wp.{Env, Calls, Loops}
use types.Logic.{Logic, sem}
use sound.WpLaws.{FmC}
use contract.Monad.{fact}
use types.Kit.{Item, ‵, raw, ◌⊛◌, some, later, mean, Post, runs, lands, Seq, ◌$◌, ◌∵◌, !, qed, by, move, use1, use2, use3, drop, split, join, pick, rewrite, fsplit, fjoin, fpick, fpack, await}
use types.Run.{Opds}
use types.SemTy.{Body}
use types.Tokens.{lft_new, lft_end}
use denote.RattleType.{RattleType}
use denote.ArrayMemory.{Single}
use denote.Laws.{Is, Makes, shows}
use denote.Lend.{lends_ref, ref_back}
use denote.Memory.{mem, part_at, part_of, cell_at, lone}
use denote.Ref.{MutBor, MutRef}
use denote.Steps.{owned, peeks}
use denote.Triple.Statement.{Contract, Triple}
use Rattle.walks.proofs.Calls.{calls_some}

abbrev Ref : (T : RattleType) (l : ℕ) → GName → T.Denot → MutBor T.Denot
Ref T l δ z = record { ref_ptr = (l, 0); ghost_name = δ; now = z }

module _ {M : Type 1} {𝓤 : Ura M} (𝓛 : Logic 𝓤) where
  -- the cell of a local as the machine sees it, and back
  open 𝓛 use {H, A}

  raw_cell : (τs : List Ty) → Single τs → (l : ℕ) (v : Val) → ent 𝓤 (sem 𝓛 (fat full_share (lone τs) l 0 v)) (sem 𝓛 (cell_at full_share τs (v ∷ []) l 0))
  raw_cell [] single l v = absurd single
  raw_cell (τ ∷ []) single l v = 𝓛.laws.at_raw full_share τ l 0 v
  raw_cell (τ ∷ σ ∷ τs) single l v = absurd single

  cell_raw : (τs : List Ty) → Single τs → (l : ℕ) (v : Val) → ent 𝓤 (sem 𝓛 (cell_at full_share τs (v ∷ []) l 0)) (sem 𝓛 (fat full_share (lone τs) l 0 v))
  cell_raw [] single l v = absurd single
  cell_raw (τ ∷ []) single l v = 𝓛.laws.raw_at full_share τ l 0 v
  cell_raw (τ ∷ σ ∷ τs) single l v = absurd single

  -- the cell of a value that is owned is lent, for any lifetime
  lends_value : (T : RattleType) (l : ℕ) (κ : Lft) (h : T.Denot) (v : Val)
      → ent 𝓤 (sep 𝓤 (sem 𝓛 (cell_at full_share T.mir (v ∷ []) l 0)) (sem 𝓛 (T.own_val h (v ∷ []))))
      (H.⇛ (ex 𝓤 (λ (δ : GName). sep 𝓤 (sem 𝓛 ((MutRef (named 0) κ T).own_val (Ref T l δ h) (vptr l 0 ∷ []))) (A.lent κ (Body (mem T) l 0 δ)))))
  unfolding part_of
  lends_value T l κ h v =
      qed 𝓛 (‵ (cell_at full_share T.mir (v ∷ []) l 0) ∷ ‵ (T.own_val h (v ∷ [])) ∷ []) ∵
      fjoin ! $ fpack ! (List Val) (λ vs. fsep (cell_at full_share T.mir vs l 0) (T.own_val h vs)) (v ∷ []) $ by ! (lends_ref 𝓛 T (named 0) κ h l 0)

module _ {M : Type 1} {𝓤 : Ura M} {𝓛 : Logic 𝓤} {K : Type 0} {Γ : List (Item 𝓤)} {E : Env 𝓤 𝓛.H} {C : Calls 𝓤 𝓛.H} {f : Callee} {xs : List Operand} {Λ : Loops 𝓤 𝓛.H} {p : Post 𝓤 𝓛.H} {d : Place} where
  open 𝓛 use {H}

  pub calls_with_value : K → FmC 𝓤 H 𝓛.laws C → {rest : Code} (c : Contract 𝓤) → Triple 𝓤 (C f) c → (T : RattleType) → Single T.mir → (l : ℕ) (val : T.Denot → Val) → ((z : T.Denot) (vs : List Val) → Is T z vs → vs ≡ val z ∷ []) → Makes 𝓛 T (Is T)
      → (h : T.Denot) → Is T h (val h ∷ []) → (x : ℕ → GName → c.Ghost) (more left : Item 𝓤)
      → (R : RattleType) (φ : R.Denot → Type 0) (valR : R.Denot → Val) → ((r : R.Denot) (v : Val) → Is R r (v ∷ []) → (v ∷ []) ≡ (valR r ∷ [])) → (z : T.Denot)
      → ((ν : ℕ) (δ : GName) → ent 𝓤 (mean 𝓛 ((‵ (flft (ν ∷ []) full_share) ⊛ more) ⊛ ‵ ((MutRef (named 0) (ν ∷ []) T).own_val (Ref T l δ h) (vptr l 0 ∷ [])))) (c.pre (x ν δ)))
      → ((ν : ℕ) (δ : GName) (v : Val) → ent 𝓤 (c.post (x ν δ) v) (H.⇛ (ex 𝓤 (λ (r : R.Denot). sep 𝓤 (mean 𝓛 ((‵ (flft (ν ∷ []) full_share) ⊛ left) ⊛ ‵ (fres δ (T.coded.code z)))) (fact 𝓤 (φ r × Is R r (v ∷ [])))))))
      → ((ν : ℕ) (δ : GName) → Opds K 𝓛 (raw (c.pre (x ν δ)) ∷ ‵ (flent (ν ∷ []) (Body (mem T) l 0 δ)) ∷ Γ) E xs (c.args (x ν δ)))
      → ((r : R.Denot) → φ r → Is R r (valR r ∷ []) → Is T z (val z ∷ []) → Seq K 𝓛 (‵ (fat full_share (lone T.mir) l 0 (val z)) ∷ left ∷ Γ) (lands C Λ E d (valR r) rest p))
      → Seq K 𝓛 (‵ (fat full_share (lone T.mir) l 0 (val h)) ∷ more ∷ Γ) (runs C Λ E (seq (call f xs d) rest) p)
  unfolding part_of
  calls_with_value t fm c met T single l val tells makes h was x more left R φ valR told z goes gets os k =
      use1 𝓛 (‵ (cell_at full_share T.mir (val h ∷ []) l 0)) (raw_cell 𝓛 T.mir single l (val h)) $
      owned t T (Is T) makes h (val h ∷ []) was $ lft_new t tt (λ ν. move t (2 ∷ 1 ∷ []) $
      use2 𝓛 (later (some (λ (δ : GName). ‵ ((MutRef (named 0) (ν ∷ []) T).own_val (Ref T l δ h) (vptr l 0 ∷ [])) ⊛ ‵ (flent (ν ∷ []) (Body (mem T) l 0 δ))))) (lends_value 𝓛 T l (ν ∷ []) h (val h)) $ await t tt $ pick t (λ δ. split t $
      -- [the `&mut T`; the lender's part; ν's token; more; …]
      move t (2 ∷ 3 ∷ []) $ join t $ join t $
      calls_some t fm c met (x ν δ) ((‵ (flft (ν ∷ []) full_share) ⊛ more) ⊛ ‵ ((MutRef (named 0) (ν ∷ []) T).own_val (Ref T l δ h) (vptr l 0 ∷ []))) ((‵ (flft (ν ∷ []) full_share) ⊛ left) ⊛ ‵ (fres δ (T.coded.code z))) R φ valR told (goes ν δ) (gets ν δ) (os ν δ) (λ r said is.
      split t $ split t $ lft_end t tt $ move t (0 ∷ 3 ∷ 2 ∷ []) $
      use3 𝓛 (later (‵ (part_at T full_share z l 0))) (ref_back 𝓛 T (ν ∷ []) δ z l 0) $ await t tt $ fpick t (λ vs. fsplit t $ move t (1 ∷ []) $
      peeks t T (Is T) (shows 𝓛 T) z vs (λ now-is. drop t $
      rewrite t 0 (λ (us : List Val). ‵ (cell_at full_share T.mir us l 0)) (tells z vs now-is) refl $
      use1 𝓛 (‵ (fat full_share (lone T.mir) l 0 (val z))) (cell_raw 𝓛 T.mir single l (val z)) $
      k r said is (subst (λ (us : List Val). Is T z us) (tells z vs now-is) now-is))))))
