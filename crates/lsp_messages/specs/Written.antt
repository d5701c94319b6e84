-- A text that grows by the JSON of data, and the body that it becomes.
use Rattle.std.specs.Prelude.{◌≡◌, ℕ, List, [], ◌∷◌, ◌++◌, Some, String, string_bytes, ⊤}
use Rattle.std.specs.declared.alloc.Global.{Global}
use Rattle.json.specs.Tree.{HasNumbers}
use Rattle.serde_json.specs.Data.{Data, Members, no_members, member}
use Rattle.serde_json.specs.Read.{of_json}
use Rattle.serde_json.specs.Written.{outline, compact_text}
use Rattle.lsp_messages.specs.Messages.{json_of}

-- The data's JSON is read as this data: its numbers are in range, and the keys of its objects in order.
pub record IsReadable (d : Data) : Type 0 where
  pub numbers : HasNumbers (outline d)
  pub same : of_json (outline d) ≡ Some d

-- The new text is the old one and the data's text, which is read as this data.
pub record Writes (d : Data) (old new : List ℕ) : Type 0 where
  pub appended : new ≡ old ++ compact_text d
  pub readable : IsReadable d

-- Each entry of a map has the text of a member's value under its key, and this value is readable.
abbrev pub HoldTexts : List (String Global × String Global) → Members → Type 0
HoldTexts [] no_members = ⊤
HoldTexts [] (member k d ms) = ⊥
HoldTexts (e ∷ es) no_members = ⊥
HoldTexts (e ∷ es) (member k d ms) = (string_bytes e.0 ≡ k) × (string_bytes e.1 ≡ compact_text d) × IsReadable d × HoldTexts es ms

-- A body is the text of data, and reads as them.
pub record IsBodyOf (d : Data) (body : List ℕ) : Type 0 where
  pub text : body ≡ compact_text d
  pub reads_back : json_of body ≡ Some d
