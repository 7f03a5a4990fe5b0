use Rattle.std.proofs.Common.{inl, inr, arith}
use Rattle.pcapfile_mended.proofs.CutBlocks.{not_all_data, not_cut}
use Rattle.pcapfile_mended.proofs.cut_off.cut_in.Goals as goal
use Rattle.pcapfile_mended.proofs.cut_off.cut_in.Goals.{then-stated-needed-via-then-stated-needed, then-stated-needed-via-else-stated-needed+then-stated-torn}

pub returns-in_err-len : goal.returns-in_err-len
returns-in_err-len g c =
    rw c.from_residual.ensures (not_all_data g.B.ByteOrder.number_of c.args.most c.args.torn.now _ _ _ _ _ c.split_u32-number.ensures.number c.split_u32-length.ensures.number c.from-type_.ensures
    c.in_err-len.ensures)

pub returns-then-stated-needed : goal.returns-then-stated-needed
returns-then-stated-needed g c =
    let behind = not_cut g.B.ByteOrder.number_of c.args.most c.args.torn.now _ _ _ _ _ c.split_u32-number.ensures.number c.split_u32-length.ensures.number c.from-type_.ensures _ c.in_ok-len.ensures.0 in
    elim c.then-stated-needed.branch [
      | then-stated-needed-via-then-stated-needed w ↦ behind (inl (omega (arith, w.if-stated-needed.true)))
      | then-stated-needed-via-else-stated-needed+then-stated-torn w ↦ behind (inr (omega (arith, w.if-stated-torn.true)))
    ]
