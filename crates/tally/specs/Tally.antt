-- What a stream's presentation times come to, one accepted frame after the other (requests #104, #106 and #107).
use Rattle.std.specs.Prelude.{ℕ, ◌+◌, ◌-◌, ◌*◌, ◌%◌, ◌^◌, min, Bool, true, false, cond, ℤ, pos, negsuc, ◌-ℤ◌, ◌==◌, nat_lt}
use Rattle.presentation.specs.declared.Kind.{Kind}
use Rattle.presentation.specs.declared.Kind.TheVariants.{None, Cut, Outside, Late, Ahead, Unclear, Far}
use Rattle.presentation.specs.declared.Timing.{Timing}
use Rattle.tally.specs.declared.Kinds.{Kinds}
use Rattle.tally.specs.declared.Sums.{Sums}
use Rattle.tally.specs.declared.Tally.{Tally}

-- ---- Nothing counted

abbrev no_kinds : Kinds
no_kinds = record { none = 0; cut = 0; outside = 0; late = 0; ahead = 0; unclear = 0; far = 0 }

abbrev no_sums : Sums
no_sums = record { smallest_below = 0; largest_above = 0; sum_above = 0; summed = 0; unsummed = 0 }

unfoldable pub no_tally : Tally
no_tally = record { kinds = no_kinds; sums = no_sums }

-- ---- How many frames had each kind

-- up by 1; a count stays at 18,446,744,073,709,551,615 once there
unfoldable pub raised : ℕ → ℕ
raised n = cond (nat_lt n 18_446_744_073_709_551_615) (n + 1) n

abbrev pub raised_if : Bool → ℕ → ℕ
raised_if wanted n = cond wanted (raised n) n

-- the kinds by number, to tell them apart
abbrev pub kind_number : Kind → ℕ
kind_number None = 0
kind_number Cut = 1
kind_number Outside = 2
kind_number Late = 3
kind_number Ahead = 4
kind_number Unclear = 5
kind_number Far = 6

abbrev pub same_kind : Kind → Kind → Bool
same_kind a b = kind_number a == kind_number b

-- the count of the frame's own kind goes up, and no other
unfoldable pub kinds_after : Kind → Kinds → Kinds
kinds_after kind k =
    record {
      none = raised_if (same_kind kind None) k.none;
      cut = raised_if (same_kind kind Cut) k.cut;
      outside = raised_if (same_kind kind Outside) k.outside;
      late = raised_if (same_kind kind Late) k.late;
      ahead = raised_if (same_kind kind Ahead) k.ahead;
      unclear = raised_if (same_kind kind Unclear) k.unclear;
      far = raised_if (same_kind kind Far) k.far;
    }

-- ---- Sums, over those late or ahead

abbrev pub is_timed : Kind → Bool
is_timed None = false
is_timed Cut = false
is_timed Outside = false
is_timed Late = true
is_timed Ahead = true
is_timed Unclear = false
is_timed Far = false

-- how far an offset is above the lowest, −2,147,483,648; one past either end, which no frame has, counts as that end
abbrev pub above_lowest : ℤ → ℕ
above_lowest (pos n) = min (2_147_483_648 + n) 4_294_967_295
above_lowest (negsuc n) = 2_147_483_647 - n

abbrev pub greater : ℕ → ℕ → ℕ
greater a b = cond (nat_lt a b) b a

-- so many are summed
abbrev pub most_summed : ℕ
most_summed = 1_000_000

-- later ones are only counted. The sum wraps at 2^64, which it reaches only from a sum that was lent
unfoldable pub sums_after : ℕ → Sums → Sums
sums_after above s =
    cond (nat_lt s.summed most_summed)
    (record {
      smallest_below = greater s.smallest_below (4_294_967_295 - above);
      largest_above = greater s.largest_above above;
      sum_above = (s.sum_above + above) % 2 ^ 64;
      summed = s.summed + 1;
      unsummed = s.unsummed;
    })
    (record {
      smallest_below = s.smallest_below;
      largest_above = s.largest_above;
      sum_above = s.sum_above;
      summed = s.summed;
      unsummed = raised s.unsummed;
    })

-- what the sums stand for, where some were summed
abbrev pub smallest : Sums → ℤ
smallest s = pos 2_147_483_647 -ℤ pos s.smallest_below

abbrev pub largest : Sums → ℤ
largest s = pos s.largest_above -ℤ pos 2_147_483_648

abbrev pub sum : Sums → ℤ
sum s = pos s.sum_above -ℤ pos (s.summed * 2_147_483_648)

-- ---- Both

unfoldable pub counted : Timing → Tally → Tally
counted t y =
    record {
      kinds = kinds_after t.kind y.kinds;
      sums = cond (is_timed t.kind) (sums_after (above_lowest t.offset) y.sums) y.sums;
    }
