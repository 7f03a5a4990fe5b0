use Rattle.std.proofs.Common.{arith, refl}
use Rattle.pcap_options.specs.Values.{Bytes, Integer}
use Rattle.pcap_core.proofs.OnePadded.{no_short_padded}
use Rattle.pcapfile_values.proofs.enhanced_options.behind_value.Goals as goal

pub returns-in-2 : goal.returns-in-2
returns-in-2 g c =
    let v = c.in_ok-_value in
    record { bytes = v._value.now; value = Integer (g.B.ByteOrder.number_of 4 v._value.now); length_is = v.ensures.len; padded = v.ensures.padded; passed = rw c.in-2.is (omega arith, omega arith); value_is = rw (c.in-2.is, v.ensures.len, c.if-len-eq4.true) refl }

pub returns-in-3 : goal.returns-in-3
returns-in-3 g c =
    let v = c.in_ok-_value in
    record { bytes = v._value.now; value = Bytes v._value.now; length_is = v.ensures.len; padded = v.ensures.padded; passed = rw c.in-3.is (omega arith, omega arith); value_is = rw c.in-3.is refl }

pub returns-in-4 : goal.returns-in-4
returns-in-4 g c =
    let v = c.in_ok-_value in
    record { bytes = v._value.now; value = Integer (g.B.ByteOrder.number_of 8 v._value.now); length_is = v.ensures.len; padded = v.ensures.padded; passed = rw c.in-4.is (omega arith, omega arith); value_is = rw (c.in-4.is, v.ensures.len, c.if-len-eq8.true) refl }

pub returns-in_err-_value : goal.returns-in_err-_value
returns-in_err-_value g c =
    rw c.from_residual.ensures (λ rest v. no_short_padded v.bytes c.args.slice.now rest c.args.len v.padded v.length_is c.in_err-_value.ensures.len)
