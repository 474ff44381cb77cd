-- What holds of a write that no check refuses. Assumes nothing.
use Prim.Native.Nat.{ℕ, ◌≤◌}
use mathlib.Core.Path.{◌≡◌, sym, subst}
use mathlib.Core.Bool.{Bool, true, false, ◌&&◌}
use mathlib.Core.List.{[], ◌∷◌}
use native.Mathlib.Omega.{arith}
use borrow.Author.Tests.{ltb-false, not-false}
use lib.Dec.{T}
use mir.Facts.{and_yes}
use Rattle.wire.specs.Bits.{Fit, fits}
use Rattle.frame.specs.Layout.{vlan_row, packet_row, source_row, fraction_row, format_row, has_cip}
use Rattle.frame.specs.Checks.{misaddressed, partial_block}
use Rattle.refusal.proofs.First.{Clear, clear}
use Rattle.writer.specs.declared.given.CipFields.{CipFields}
use Rattle.writer.specs.declared.given.Given.{Given}
use Rattle.writer.specs.Frames.{vlan_values, packet_values, source_values, fraction_values, format_values, data_length, frame_length}
use Rattle.writer.specs.Writing.{address_row, low_tag_row, cip_values, cip_row, ethernet_fits, stream_fits, cip_fits, fields_fit, write_checks, write_refusal}
use Rattle.wire.proofs.Fits.{fit}

-- each value is within the bits that it may use
pub record Fitting (g : Given) : Type 0 where
  pub addresses : Fit address_row (g.ethernet.destination ∷ g.ethernet.source ∷ [])
  pub vlan : Fit vlan_row (vlan_values g.ethernet)
  pub stream : Fit low_tag_row (packet_values g.stream)
  pub cip : Fit (cip_row (has_cip g.stream.tag)) (cip_values g.cip)

pub record Accepted (g : Given) (n room : ℕ) : Type 0 where
  pub addressed : misaddressed g.ethernet.destination g.ethernet.source ≡ false
  pub fits : fields_fit g ≡ true
  pub whole : has_cip g.stream.tag && partial_block n g.cip.dbs ≡ false
  pub short : data_length g.stream.tag n ≤ 1476
  pub output : frame_length g.stream.tag n ≤ room

pub fitting : (g : Given) → fields_fit g ≡ true → Fitting g
unfolding fields_fit ethernet_fits stream_fits cip_fits
fitting g e =
    let addresses = g.ethernet.destination ∷ g.ethernet.source ∷ [] in
    let row = cip_row (has_cip g.stream.tag) in
    let a = fits address_row addresses in
    let v = fits vlan_row (vlan_values g.ethernet) in
    let p = fits low_tag_row (packet_values g.stream) in
    let all = and_yes (a && v && p) (fits row (cip_values g.cip)) (subst T (sym e) tt) in
    let front = and_yes (a && v) p all.0 in
    let ethernet = and_yes a v front.0 in
    record {
      addresses = fit address_row addresses ethernet.0;
      vlan = fit vlan_row (vlan_values g.ethernet) ethernet.1;
      stream = fit low_tag_row (packet_values g.stream) front.1;
      cip = fit row (cip_values g.cip) all.1;
    }

-- the rows of the frame
pub record Rows (g : Given) : Type 0 where
  pub vlan : Fit vlan_row (vlan_values g.ethernet)
  pub packet : Fit packet_row (packet_values g.stream)
  pub source : Fit source_row (source_values g.cip)
  pub fraction : Fit fraction_row (fraction_values g.cip)
  pub format : Fit format_row (format_values g.cip)

source_fit : (has : Bool) (f : CipFields) → Fit (cip_row has) (cip_values f) → Fit source_row (source_values f)
source_fit true f fit = omega (arith, fit)
source_fit false f fit = omega (arith, fit)

fraction_fit : (has : Bool) (f : CipFields) → Fit (cip_row has) (cip_values f) → Fit fraction_row (fraction_values f)
fraction_fit true f fit = omega (arith, fit)
fraction_fit false f fit = omega (arith, fit)

format_fit : (has : Bool) (f : CipFields) → Fit (cip_row has) (cip_values f) → Fit format_row (format_values f)
format_fit true f fit = omega (arith, fit)
format_fit false f fit = omega (arith, fit)

-- a tag of one bit is within its two, and a CIP header that is not there is zeros
pub rows : (g : Given) → fields_fit g ≡ true → Rows g
rows g e =
    let fit = fitting g e in
    let has = has_cip g.stream.tag in
    record {
      vlan = fit.vlan;
      packet = (omega (arith, fit.stream.0), fit.stream.1);
      source = source_fit has g.cip fit.cip;
      fraction = fraction_fit has g.cip fit.cip;
      format = format_fit has g.cip fit.cip;
    }

module _ (g : Given) (n room : ℕ) (ok : write_refusal g n room ≡ 0) where
  clears : Clear (write_checks g n room)
  unfolding write_refusal write_checks
  clears = clear (write_checks g n room) tt ok

  pub accepted : Accepted g n room
  unfolding write_checks
  accepted =
      let c = clears in
      record {
        addressed = c.0;
        fits = not-false (fields_fit g) c.1.0;
        whole = c.1.1.0;
        short = ltb-false 1476 (data_length g.stream.tag n) c.1.1.1.0;
        output = ltb-false room (frame_length g.stream.tag n) c.1.1.1.1.0;
      }
