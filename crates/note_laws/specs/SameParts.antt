-- A part of a form that is at work still (R7RS 5.3): what it began with, and has defined since, is as it was.
use Rattle.std.specs.Prelude.{◌≡◌}
use Rattle.noted_steps.specs.Noting.{Noting}

abbrev pub SamePart : Noting → Noting → Type 0
SamePart s t = (t.since ≡ s.since) × (t.before ≡ s.before)
