-- A table stays as long as it was. Assumes nothing.
use Prim.Native.Nat.{ℕ, zero, suc}
use mathlib.Core.Path.{◌≡◌, refl}
use mathlib.Core.List.{List}
use lib.ListN.{length, set, length-set}
use Rattle.refusal.specs.Refusals.{if_accepted, first_of}
use Rattle.stream.specs.declared.Record.{Record}
use Rattle.stream.specs.Records.{unused, admitted_within}
use Rattle.stream.specs.Answers.{after, id_of}
use Rattle.table.specs.Table.{Table, place, holds, is_unused, at, admit_checks, remove_checks, admit, remove, number_with, receive}

pub length_changed : (n : ℕ) (t : Table) (i : ℕ) (r : Record) → length (if_accepted n (set t i r) t) ≡ length t
length_changed zero t i r = length-set t i r
length_changed (suc n) t i r = refl

pub length_admit : (limit : ℕ) (t : Table) (id : ℕ) → length (admit limit t id).1 ≡ length t
unfolding admit
length_admit limit t id = length_changed (first_of (admit_checks limit t id)) t (place is_unused t) (admitted_within id limit)

pub length_remove : (t : Table) (id : ℕ) → length (remove t id).1 ≡ length t
unfolding remove
length_remove t id = length_changed (first_of (remove_checks t id)) t (place (holds id) t) unused

pub length_receive : (t : Table) (frame : List ℕ) (L : ℕ) → length (receive t frame L).1 ≡ length t
unfolding receive
length_receive t frame L = let i = place (holds (id_of frame)) t in length_changed (number_with t frame) t i (after (at t i) frame L)
