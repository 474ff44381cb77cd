-- Parts of a slice that come back to the caller (document 01, Frame layout: "the payload comes back as that part of the caller's frame").
use Rattle.std.specs.Prelude.{ℕ, ◌+◌, ◌≡◌}

-- Where a slice stands is the memory that it is in, and its place there. A part that comes back stands in the memory of the whole, and,
-- where there is such a part, k bytes on; where there is none, an empty one comes back.
abbrev pub StandsIn : ℕ × ℕ → ℕ → ℕ × ℕ → Type 0 → Type 0
StandsIn whole k part There = (part.0 ≡ whole.0) × (There → part.1 ≡ whole.1 + k)
