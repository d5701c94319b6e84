-- What the source and the sink show at a moment.
use Rattle.command_output.specs.Reads.{SourceSeen}
use Rattle.command_output.specs.Prints.{SinkSeen}

pub record Streams : Type 0 where
  pub source : SourceSeen
  pub sink : SinkSeen

abbrev pub streams : SourceSeen → SinkSeen → Streams
streams source sink = record { source = source; sink = sink }
