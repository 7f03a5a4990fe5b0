use Rattle.std.proofs.Common.{◌≡◌, ap, arith, length, length-append, ℕ, ◌∙◌, ◌++◌, ◌-◌}
use Rattle.std.specs.Prelude.{replicate}
use Rattle.std.proofs.lemmas.List.{length-replicate}
use Rattle.pcap_written.specs.Raw.{raw_of}
use Rattle.pcapfile_mended.specs.Mended.{short}
use Rattle.pcapfile_mended.proofs.BodiesSaid.{changed, left_out, short_interface}
use Rattle.pcapfile_mended.proofs.mending.put_rest.Goals as goal

pub put_filled-requires : goal.put_filled-requires
put_filled-requires c = omega (arith, short_interface (raw_of c.args.block) c.requires.none c.in-InterfaceDescription.is)

pub put_changed-requires : goal.put_changed-requires
put_changed-requires c =
    let s = c.args.block.body.now in
    let lt = short_interface (raw_of c.args.block) c.requires.none c.in-InterfaceDescription.is in
    let zeros : length (replicate {A = ℕ} (8 - length s) 0) ≡ 8 - length s = length-replicate {A = ℕ} (8 - length s) 0 in
    let put : c.as_slice.result.now ≡ s ++ replicate (8 - length s) 0 = c.as_slice.ensures.value ∙ c.in_ok-put_filled-in-InterfaceDescription.ensures in
    omega (arith, lt, ap length put, length-append s (replicate (8 - length s) 0), zeros)

pub returns-in_ok-put_filled-in-InterfaceDescription-clause-mended : goal.returns-in_ok-put_filled-in-InterfaceDescription-clause-mended
returns-in_ok-put_filled-in-InterfaceDescription-clause-mended c =
    let raw = raw_of c.args.block in
    let s = raw.body in
    let is = c.in-InterfaceDescription.is in
    changed raw (s ++ replicate (8 - length s) 0) c.as_slice.result.now c.put_changed.new.text.items c.put_changed.result (c.as_slice.ensures.value ∙ c.in_ok-put_filled-in-InterfaceDescription.ensures)
    (short is (short_interface raw c.requires.none is)) c.put_changed.ensures

pub returns-in_default-clause-mended : goal.returns-in_default-clause-mended
returns-in_default-clause-mended c = left_out (raw_of c.args.block) c.clear.new.self.items c.requires.refused c.requires.none c.in_default.not-InterfaceDescription c.clear.ensures.items
