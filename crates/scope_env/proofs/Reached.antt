-- The scope that a walk through uses is in.
use Rattle.std.proofs.Common.{◌≡◌, ℕ, ◌<◌, length, Option, Some, None, subst}
use Rattle.std.proofs.lemmas.Option.{same_Some}
use Rattle.syntax_tree.specs.Numbered.{number_of}
use Rattle.syntax_tree.specs.declared.symbols.UseNo.{UseNo}
use Rattle.scope_env.specs.Environment.{Environment, IsSound}
use Rattle.scope_env.specs.Resolved.{reached}

-- it is there
pub reached_within : (env : Environment) → IsSound env → (start : ℕ) → start < length env.scopes → (last : Option UseNo) → (n : ℕ) → reached env start last ≡ Some n → n < length env.scopes
reached_within env sound start lt None n h = subst (λ (m : ℕ). m < length env.scopes) (same_Some start n h) lt
reached_within env sound start lt (Some k) n h = sound.uses (number_of k) n h
