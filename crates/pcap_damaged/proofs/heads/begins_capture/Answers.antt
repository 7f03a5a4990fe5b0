use Rattle.pcap_damaged.proofs.Texts.{capture_version, no_capture}
use Rattle.pcap_damaged.proofs.heads.begins_capture.Goals as goal

pub returns-in-Ok : goal.returns-in-Ok
returns-in-Ok c =
    let text = c.in-Ok.ensures.tells in (
      λ yes. let version = c.is_current.ensures.0 yes in record { header = c.in-Ok.header; rest = c.in-Ok._rest.now; text = text; major = version.0; minor = version.1 },
      λ begins. c.is_current.ensures.1 (capture_version c.in-Ok.header c.args.slice.now c.in-Ok._rest.now text begins),
    )

pub returns-in-Err : goal.returns-in-Err
returns-in-Err c = (λ none. absurd cc, λ begins. absurd (no_capture c.args.slice.now c.in-Err._e c.in-Err.ensures.tells begins))
