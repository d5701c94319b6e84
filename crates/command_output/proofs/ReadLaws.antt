-- Reads one after another.
use Rattle.std.proofs.Common.{◌≡◌, ℕ, ◌≤◌, List, [], ◌∷◌, ◌++◌, length, take, refl, ◌∙◌, subst}
use Rattle.ls_outside.specs.Calls.{LastTakes}
use Rattle.ls_outside.specs.Counts.{Fails}
use Rattle.ls_outside.proofs.CallLaws.{last_after, take_none, take_one, take_then}
use Rattle.command_output.specs.Reads.{FailsToRead, ReadsOn, ReadsToEnd, SourceSeen, TakesAll}

pub reads_none : (a : SourceSeen) → ReadsOn a a []
reads_none a = record { no_fault = refl; calls = take_none a.reads }

pub reads_then : (a b c : SourceSeen) (x y : List ℕ) → ReadsOn a b x → ReadsOn b c y → ReadsOn a c (x ++ y)
reads_then a b c x y first second = record { no_fault = second.no_fault ∙ first.no_fault; calls = take_then a.reads b.reads c.reads x y first.calls second.calls }

-- a read that takes bytes
pub read_some : (a b : SourceSeen) (buffer : List ℕ) (n : ℕ) → b.faults ≡ a.faults → b.reads ≡ a.reads ++ take n buffer ∷ [] → 1 ≤ n → n ≤ length buffer → ReadsOn a b (take n buffer)
read_some a b buffer n counts notes some within = record { no_fault = counts; calls = take_one a.reads b.reads buffer n notes some within }

-- a read behind others
pub read_last : (a b c : SourceSeen) (bytes last : List ℕ) → ReadsOn a b bytes → c.reads ≡ b.reads ++ last ∷ [] → LastTakes a.reads c.reads bytes last
read_last a b c bytes last on notes = last_after a.reads b.reads c.reads bytes last on.calls notes

-- a read that finds the end, behind others
pub read_to_end : (a b c : SourceSeen) (bytes : List ℕ) → ReadsOn a b bytes → TakesAll a.left c.left bytes → c.faults ≡ b.faults → c.reads ≡ b.reads ++ [] ∷ [] → ReadsToEnd a c bytes
read_to_end a b c bytes on all counts notes = record { all = all; no_fault = counts ∙ on.no_fault; calls = read_last a b c bytes [] on notes }

-- a read that fails, behind others
pub read_fails_then : (a b c : SourceSeen) (bytes : List ℕ) → ReadsOn a b bytes → Fails b.faults c.faults → c.reads ≡ b.reads ++ [] ∷ [] → FailsToRead a c bytes
read_fails_then a b c bytes on failed notes =
    record { failed = subst (λ (n : ℕ). Fails n c.faults) on.no_fault failed; calls = read_last a b c bytes [] on notes }
