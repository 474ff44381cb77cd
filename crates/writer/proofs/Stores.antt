-- A header stored at the front of the output and a payload behind it. Assumes nothing.
use Prim.Native.Nat.{ℕ, suc, ◌+◌, ◌-◌, ◌≤◌}
use mathlib.Core.Path.{◌≡◌, sym, ap, subst, ◌∙◌}
use mathlib.Core.Bool.{Bool}
use mathlib.Core.List.{List, [], ◌∷◌, ◌++◌, append_assoc}
use native.Mathlib.Omega.{arith}
use lib.ListN.{length, take, drop, set, length-append}
use lib.Seq.{sets, sets-eq, drop-drop}
use borrow.Rule.Slice.PartMut.{put_mid}
use Rattle.frame.specs.Layout.{has_cip, payload_start}
use Rattle.writer.specs.declared.Sender.{Sender}
use Rattle.writer.specs.declared.given.Given.{Given}
use Rattle.writer.specs.Frames.{header_bytes, cip_bytes, frame_length, frame_bytes}

-- bytes copied to a part of a slice
pub copied : (at : ℕ) (bytes l : List ℕ) {o : List ℕ} → at + length bytes ≤ length l → o ≡ bytes → put_mid at (at + length bytes - at) l o ≡ sets l at bytes
copied at bytes l h e =
    let n : at + length bytes - at ≡ length bytes = omega arith in
    rw (e, sets-eq bytes l at h, n, drop-drop) (sym (append_assoc (take at l) bytes (drop (at + length bytes) l)))

sets_append : (l : List ℕ) (i : ℕ) (a b : List ℕ) → sets l i (a ++ b) ≡ sets (sets l i a) (i + length a) b
sets_append l i [] b = let e : i ≡ i + 0 = omega arith in ap (λ (j : ℕ). sets l j b) e
sets_append l i (x ∷ a) b =
    let e : suc i + length a ≡ i + suc (length a) = omega arith in
    sets_append (set l i x) (suc i) a b ∙ ap (λ (j : ℕ). sets (sets (set l i x) (suc i) a) j b) e

-- a header h of k bytes stored at the front, and a payload p behind it
pub behind : (k : ℕ) (h p out : List ℕ) → length h ≡ k → k + length p ≤ length out → sets (sets out 0 h) k p ≡ (h ++ p) ++ drop (k + length p) out
behind k h p out size room =
    let at : k ≡ 0 + length h = omega (arith, size) in
    let n : 0 + length (h ++ p) ≡ k + length p = rw (length-append h p) (omega (arith, size)) in
    ap (λ (j : ℕ). sets (sets out 0 h) j p) at
    ∙ sym (sets_append out 0 h p)
    ∙ sets-eq (h ++ p) out 0 (rw n room)
    ∙ ap (λ (j : ℕ). (h ++ p) ++ drop j out) n

-- a frame by whether it has a CIP header
pub frame_as : (s : Sender) (g : Given) (p out : List ℕ) (has : Bool) → has_cip g.stream.tag ≡ has → {o : List ℕ}
    → o ≡ (header_bytes s g (length p) ++ cip_bytes has g.cip s.dbc ++ p) ++ drop (payload_start has + length p) out
    → o ≡ frame_bytes s g p ++ drop (frame_length g.stream.tag (length p)) out
unfolding frame_bytes
frame_as s g p out has e {o} =
    subst (λ (b : Bool). o ≡ (header_bytes s g (length p) ++ cip_bytes b g.cip s.dbc ++ p) ++ drop (payload_start b + length p) out) (sym e)

-- and the room for it
pub room_as : (tag n room : ℕ) (has : Bool) → has_cip tag ≡ has → frame_length tag n ≤ room → payload_start has + n ≤ room
room_as tag n room has e h = subst (λ (b : Bool). payload_start b + n ≤ room) e h
