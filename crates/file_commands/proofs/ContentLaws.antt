-- What is printed of a rename in a content, which is a text or isn't UTF-8.
use Rattle.std.proofs.Common.{◌≡◌, ℕ, List, cond, sym, ap, ◌∙◌}
use Rattle.std.specs.Str.{IsUtf8}
use Rattle.std.proofs.lemmas.Str.{is_utf8-from_IsUtf8}
use Rattle.ls_base.specs.declared.places.Pos.{Pos}
use Rattle.rename_conditions.specs.Readers.{Reader}
use Rattle.command_lines.specs.Diagnostics.{diagnostic_line, not_utf8}
use Rattle.file_commands.specs.Renaming.{printed, rename_in_text, renamed_in}
use Rattle.file_commands.specs.declared.renaming.Renamed.{Renamed}
use Rattle.file_commands.specs.declared.renaming.Renamed.TheVariants.{NotUtf8}
use Rattle.file_commands.proofs.FileLaws.{not_text}

module _ (r : Reader) (name content : List ℕ) (position : Pos) (new : List ℕ) where
  pub of_text : (text : List ℕ) (renamed : Renamed) → IsUtf8 content → text ≡ content → renamed ≡ printed (rename_in_text r name text position new) → renamed ≡ renamed_in r name content position new
  of_text text renamed utf8 same is =
      is ∙ ap (λ (t : List ℕ). printed (rename_in_text r name t position new)) same
      ∙ ap (λ b. cond b (printed (rename_in_text r name content position new)) (NotUtf8 (diagnostic_line name not_utf8))) (sym (is_utf8-from_IsUtf8 content utf8))

  pub of_no_text : (line : List ℕ) → (IsUtf8 content → ⊥) → line ≡ diagnostic_line name not_utf8 → NotUtf8 line ≡ renamed_in r name content position new
  of_no_text line bad is =
      ap (λ (l : List ℕ). NotUtf8 l) is
      ∙ ap (λ b. cond b (printed (rename_in_text r name content position new)) (NotUtf8 (diagnostic_line name not_utf8))) (sym (not_text content bad))
