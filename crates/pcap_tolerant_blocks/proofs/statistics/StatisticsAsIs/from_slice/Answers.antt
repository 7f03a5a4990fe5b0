use Rattle.std.proofs.Common.{refl}
use Rattle.pcap_options.specs.StatisticsOption.{interface_statistics}
use Rattle.pcap_tolerant_blocks.specs.StatisticsAsIs.{StatisticsAsIsText, StatisticsGrow}
use Rattle.pcap_tolerant_blocks.proofs.Growth.{grows_behind}
use Rattle.pcap_tolerant_blocks.proofs.OneBodies.{statistics_one}
use Rattle.pcap_tolerant_blocks.proofs.statistics.StatisticsAsIs.from_slice.Goals as goal
use Rattle.pcap_raw_options.proofs.RawRead.{holds_on_err}

pub returns-in_err-list-clause-memory : goal.returns-in_err-list-clause-memory
returns-in_err-list-clause-memory g c =
    let order = g.B.ByteOrder.number_of in
    let s = c.args.slice.now in
    let grows = grows_behind (StatisticsAsIsText order) s (statistics_one order s) order interface_statistics c.split_time-timestamp.result.1.now (λ x. x.options)
    (λ options. record { interface_id = c.split_u32-interface_id.result.0; timestamp = c.split_time-timestamp.result.0; options = options }) (λ options. refl)
    (λ options flaws rest list. record { after_interface = _; after_time = _; interface_is = c.split_u32-interface_id.ensures.number; time_is = c.split_time-timestamp.ensures.time; options_are = list })
    c.in_err-list.ensures.memory in
    holds_on_err (StatisticsGrow order s) grows c.from_residual-in_err-list.result
