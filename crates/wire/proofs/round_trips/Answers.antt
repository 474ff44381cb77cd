use Rattle.std.proofs.Common.{sym, subst}
use lib.Dec.{T}
use Rattle.wire.proofs.Bits.{unpack_pack, pack_unpack}
use Rattle.wire.proofs.Fits.{fit, fit_true}
use Rattle.wire.proofs.Numbers.{number_of, bytes_number}
use Rattle.wire.proofs.round_trips.Goals as goal

-- what fits by the test fits, and a row's fields and a number's bytes undo each other
pub returns : goal.returns
returns c =
    record {
      tested = λ ws vs e. fit ws vs (subst T (sym e) tt);
      fitting = fit_true;
      fields_of_row = unpack_pack;
      row_of_fields = pack_unpack;
      number_of_bytes = number_of;
      bytes_of_number = bytes_number;
    }
