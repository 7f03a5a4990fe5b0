use Rattle.pcap_ng.proofs.HeadedFrames.{frame_one}
use Rattle.pcap_ng.proofs.laws.frame_is_one.Goals as goal

pub returns : goal.returns
returns c = frame_one
