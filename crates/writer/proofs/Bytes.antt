-- The bytes that std makes of a number are the row's. Assumes nothing.
use Prim.Native.Nat.{ℕ, zero, suc, ◌/◌, ◌%◌, ◌^◌, ◌<◌}
use mathlib.Core.Path.{◌≡◌, refl, sym, ap, ◌∙◌}
use mathlib.Core.List.{[], ◌∷◌, ◌++◌}
use native.Mathlib.Nat.{div-one, mod-eq_of_lt, pow-succ'}
use lib.Pow.{pow-add}
use native.Mathlib.Omega.{arith}
use Rattle.std.specs.Int.{byte_at, bytes_high_first}
use Rattle.wire.specs.Bits.{width, pack}
use Rattle.wire.specs.Numbers.{octets, bytes}
use Rattle.frame.specs.Layout.{vlan_row, valid_row, uncertain_row, packet_row, source_row, fraction_row, format_row}
use Rattle.writer.specs.declared.given.EthernetFields.{EthernetFields}
use Rattle.writer.specs.declared.given.AvtpFields.{AvtpFields}
use Rattle.writer.specs.declared.given.StreamFields.{StreamFields}
use Rattle.writer.specs.declared.given.CipFields.{CipFields}
use Rattle.writer.specs.Frames.{vlan_values, valid_values, uncertain_values, packet_values, source_values, fraction_values, format_values, ethernet_bytes, avtp_bytes, stream_bytes, source_bytes, format_bytes}

octets_pow : (k : ℕ) → 256 ^ k ≡ 2 ^ width (octets k)
octets_pow zero = refl
octets_pow (suc k) = rw (pow-succ' 256 k, octets_pow k, pow-add 2 8 (width (octets k))) refl

byte_of : (k n : ℕ) → byte_at k n ≡ n / 2 ^ width (octets k) % 2 ^ 8
byte_of zero n = ap (λ (m : ℕ). m % 256) (sym (div-one n))
byte_of (suc k) n = ap (λ (m : ℕ). n / m % 256) (octets_pow (suc k))

high_first : (k n : ℕ) → bytes_high_first k n ≡ bytes k n
high_first zero n = refl
high_first (suc k) n = λ i. byte_of k n i ∷ high_first k n i

-- a number of one byte is its byte
one : (n : ℕ) → n < 256 → n ∷ [] ≡ bytes 1 n
one n h = ap (λ (m : ℕ). m ∷ []) (sym (mod-eq_of_lt h)) ∙ high_first 1 n

pub ethernet_is : (a : EthernetFields) → bytes_high_first 6 a.destination ++ bytes_high_first 6 a.source ++ bytes_high_first 2 0x8100 ++ bytes_high_first 2 (pack vlan_row (vlan_values a)) ++ bytes_high_first 2 0x22F0 ≡ ethernet_bytes a
unfolding ethernet_bytes
ethernet_is a = λ i.
    high_first 6 a.destination i ++ high_first 6 a.source i ++ high_first 2 0x8100 i ++ high_first 2 (pack vlan_row (vlan_values a)) i ++ high_first 2 0x22F0 i

pub avtp_is : (sequence : ℕ) (m : AvtpFields) {v u : ℕ} → v ≡ pack valid_row (valid_values m) → u ≡ pack uncertain_row (uncertain_values m) → sequence < 256 → v < 256 → u < 256
    → 0 ∷ v ∷ sequence ∷ u ∷ [] ≡ avtp_bytes sequence m
unfolding avtp_bytes
avtp_is sequence m {v} {u} ev eu hs hv hu =
    (λ i. one 0 (omega arith) i ++ one v hv i ++ one sequence hs i ++ one u hu i) ∙ (λ i. bytes 1 0 ++ bytes 1 (ev i) ++ bytes 1 sequence ++ bytes 1 (eu i))

pub stream_is : (o : StreamFields) (n : ℕ)
    → bytes_high_first 8 o.id ++ bytes_high_first 4 o.timestamp ++ bytes_high_first 4 o.gateway_info ++ bytes_high_first 2 n ++ bytes_high_first 2 (pack packet_row (packet_values o)) ≡ stream_bytes o n
unfolding stream_bytes
stream_is o n = λ i.
    high_first 8 o.id i ++ high_first 4 o.timestamp i ++ high_first 4 o.gateway_info i ++ high_first 2 n i ++ high_first 2 (pack packet_row (packet_values o)) i

pub source_is : (f : CipFields) (dbc : ℕ) {s t : ℕ} → s ≡ pack source_row (source_values f) → t ≡ pack fraction_row (fraction_values f) → s < 256 → f.dbs < 256 → t < 256 → dbc < 256
    → s ∷ f.dbs ∷ t ∷ dbc ∷ [] ≡ source_bytes f dbc
unfolding source_bytes
source_is f dbc {s} {t} es et hs hb ht hd =
    (λ i. one s hs i ++ one f.dbs hb i ++ one t ht i ++ one dbc hd i) ∙ (λ i. bytes 1 (es i) ++ bytes 1 f.dbs ++ bytes 1 (et i) ++ bytes 1 dbc)

pub format_is : (f : CipFields) {t : ℕ} → t ≡ pack format_row (format_values f) → t < 256 → f.fdf < 256
    → t ∷ f.fdf ∷ bytes_high_first 2 f.low_half ≡ format_bytes f
unfolding format_bytes
format_is f {t} et ht hf =
    (λ i. one t ht i ++ one f.fdf hf i ++ high_first 2 f.low_half i) ∙ (λ i. bytes 1 (et i) ++ bytes 1 f.fdf ++ bytes 2 f.low_half)
