-- Records at the edges of the rules, as one list that one claim checks.
use Rattle.std.specs.Prelude.{ℕ, ◌≡◌, List, [], ◌∷◌, ◌++◌, map, replicate}
use Rattle.capture.specs.Records.{damaged, arrival, admission, Front, end, cut, whole, entry_of}

pub record Edge : Type 0 where
  pub rest : List ℕ
  pub front : Front

abbrev edge : List ℕ → Front → Edge
edge rest front = record { rest = rest; front = front }

abbrev pub record_edges : List Edge
record_edges =
    edge [] end
    -- a single byte left over; a record that lacks its last byte
    ∷ edge (0 ∷ []) cut
    ∷ edge (2 ∷ 0 ∷ 1 ∷ []) cut
    -- lengths 0 and 1, whatever comes after the record
    ∷ edge (0 ∷ 0 ∷ 2 ∷ 0 ∷ []) (whole 2 (damaged 42))
    ∷ edge (1 ∷ 0 ∷ 1 ∷ []) (whole 3 (damaged 42))
    -- kind 1 of lengths 9 and 10, L 1000, with no byte of a frame; kind 2 of length 11
    ∷ edge (9 ∷ 0 ∷ 1 ∷ 0 ∷ replicate 7 0) (whole 11 (damaged 42))
    ∷ edge (10 ∷ 0 ∷ 1 ∷ 0 ∷ 232 ∷ 3 ∷ replicate 6 0) (whole 12 (arrival 1000))
    ∷ edge (11 ∷ 0 ∷ 2 ∷ 0 ∷ replicate 9 0) (whole 13 (damaged 42))
    -- id 1 admitted, with more bytes behind the record
    ∷ edge (10 ∷ 0 ∷ 2 ∷ 0 ∷ replicate 7 0 ++ (1 ∷ 9 ∷ [])) (whole 12 (admission 1 2_147_483_647))
    -- kind 3 of lengths 2, 9, 10, 11 and 14, and cut
    ∷ edge (2 ∷ 0 ∷ 3 ∷ 0 ∷ []) (whole 4 (damaged 42))
    ∷ edge (9 ∷ 0 ∷ 3 ∷ 0 ∷ replicate 7 0) (whole 11 (damaged 42))
    ∷ edge (10 ∷ 0 ∷ 3 ∷ 0 ∷ replicate 7 0 ++ (1 ∷ 9 ∷ [])) (whole 12 (damaged 44))
    ∷ edge (11 ∷ 0 ∷ 3 ∷ 0 ∷ replicate 9 0) (whole 13 (damaged 42))
    ∷ edge (14 ∷ 0 ∷ 3 ∷ 0 ∷ replicate 12 0) (whole 16 (damaged 42))
    ∷ edge (10 ∷ 0 ∷ 3 ∷ 0 ∷ replicate 7 0) cut
    -- kind 5 of lengths 13, 14 and 15: id 1 admitted with the limit 258
    ∷ edge (13 ∷ 0 ∷ 5 ∷ 0 ∷ replicate 11 0) (whole 15 (damaged 42))
    ∷ edge (14 ∷ 0 ∷ 5 ∷ 0 ∷ replicate 7 0 ++ (1 ∷ 2 ∷ 1 ∷ 0 ∷ 0 ∷ 9 ∷ [])) (whole 16 (admission 1 258))
    ∷ edge (15 ∷ 0 ∷ 5 ∷ 0 ∷ replicate 13 0) (whole 17 (damaged 42))
    -- kinds 0, 4, 256 and 259
    ∷ edge (2 ∷ 0 ∷ 0 ∷ 0 ∷ []) (whole 4 (damaged 43))
    ∷ edge (2 ∷ 0 ∷ 4 ∷ 0 ∷ []) (whole 4 (damaged 43))
    ∷ edge (3 ∷ 0 ∷ 0 ∷ 1 ∷ 7 ∷ []) (whole 5 (damaged 43))
    ∷ edge (10 ∷ 0 ∷ 3 ∷ 1 ∷ replicate 8 0) (whole 12 (damaged 43))
    ∷ []

abbrev pub RecordEdges : Type 0
RecordEdges = map (λ (e : Edge). entry_of e.rest) record_edges ≡ map (λ (e : Edge). e.front) record_edges
