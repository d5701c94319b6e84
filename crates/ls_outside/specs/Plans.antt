-- Which calls of an object in memory are to fail.
use Rattle.std.specs.Prelude.{◌≡◌, ℕ, ◌+◌, ◌-◌, ◌^◌, List, min, Contains}
use Rattle.ls_outside.specs.declared.plan.Plan.{Plan}

abbrev pub calls_to_fail : Plan → List ℕ
calls_to_fail plan = plan.failing.items

abbrev pub calls_made : Plan → ℕ
calls_made plan = plan.calls

-- the number of the next call: calls are counted in 64 bits
abbrev pub next_call : Plan → ℕ
next_call plan = min (calls_made plan + 1) (2 ^ 64 - 1)

-- the next call is one of those that are to fail
abbrev pub IsNextToFail : Plan → Type 0
IsNextToFail plan = Contains (calls_to_fail plan) (next_call plan)

-- a call was made, and the plan is the same
pub record CountsCall (old new : Plan) : Type 0 where
  pub counted : calls_made new ≡ next_call old
  pub same : calls_to_fail new ≡ calls_to_fail old
