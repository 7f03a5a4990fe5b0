use Rattle.pcap_filter.proofs.text.instruction_of.Goals as goal

pub returns-in_err-jf : goal.returns-in_err-jf
returns-in_err-jf c = rw c.from_residual-in_err-jf.ensures (λ instruction words. c.in_err-jf.ensures instruction.jf words.2)

pub returns-in_err-k : goal.returns-in_err-k
returns-in_err-k c = rw c.from_residual-in_err-k.ensures (λ instruction words. c.in_err-k.ensures instruction.k words.3)

pub returns : goal.returns
returns c = (c.in_ok-code.ensures, c.in_ok-jt.ensures, c.in_ok-jf.ensures, c.in_ok-k.ensures)
