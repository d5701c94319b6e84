use Rattle.std.proofs.Common.{arith}
use Rattle.file_fetching.proofs.FetchLaws.{is_held, is_over}
use Rattle.file_fetching.proofs.fetching.fetch.Goals as goal

pub returns-in-Bytes : goal.returns-in-Bytes
returns-in-Bytes g c = record {
  asks = record { asked = c.in-Bytes.ensures.asks; held = c.in-Bytes.ensures.stays };
  no_fault = c.in-Bytes.ensures.counts;
  reads = c.in-Bytes.ensures.gives;
  within_limit = omega (arith, c.in-Bytes.ensures.within, c.in-Bytes.content.ok.0);
  is = is_held _ _ _ _ c.in-Bytes.ensures.tells;
}

pub returns-in-Long : goal.returns-in-Long
returns-in-Long g c = record {
  asks = record { asked = c.in-Long.ensures.asks; held = c.in-Long.ensures.stays };
  no_fault = c.in-Long.ensures.counts;
  bytes = c.in-Long.ensures.gives.0;
  reads = c.in-Long.ensures.gives.1;
  longer = c.in-Long.ensures.gives.2;
  over = is_over _ _ _ c.in-Long.ensures.tells;
}

pub returns-in-Failed : goal.returns-in-Failed
returns-in-Failed g c = record {
  asks = record { asked = c.in-Failed.ensures.asks; held = c.in-Failed.ensures.stays };
  bytes = c.in-Failed.ensures.gives.0;
  reads = c.in-Failed.ensures.gives.1;
  failed = c.in-Failed.ensures.counts;
}

pub returns-in-Memory : goal.returns-in-Memory
returns-in-Memory g c = record {
  asks = record { asked = c.in-Memory.ensures.asks; held = c.in-Memory.ensures.stays };
  no_fault = c.in-Memory.ensures.counts;
}
