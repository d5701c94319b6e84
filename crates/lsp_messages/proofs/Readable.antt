-- Data of which each number is in range and the keys of each object are in order: their text reads as them.
use Rattle.std.proofs.Common.{◌≡◌, ℕ, ℤ, pos, negsuc, suc, ◌^◌, ◌<◌, ◌≤◌, SFits, w64, List, [], Some, option_map, option_and_then, refl, sym, ap, ◌∙◌, arith, append-nil}
use Rattle.json.specs.Lex.{tokens}
use Rattle.json.specs.Json as json
use Rattle.json.specs.Json.{if_last}
use Rattle.json.specs.Tree as tree
use Rattle.json.specs.Tree.{json_tokens, HasNumbers, ItemsHaveNumbers, MembersHaveNumbers}
use Rattle.json.proofs.Printed.Tokens.{tokens-print}
use Rattle.json.proofs.Printed.Trees.{value-json_tokens, ArePrintable-json_tokens}
use Rattle.json.proofs.Printed.Decimals.{IsNumber-decimal, IsNumber-signed_decimal}
use Rattle.serde_json.specs.Data.{Data, null, boolean, number, string, array, object, Items, no_items, item, Members, no_members, member, put, depth, items_depth, members_depth}
use Rattle.serde_json.specs.Read.{read, of_json, of_items, of_members, max_depth}
use Rattle.serde_json.specs.Written.{outline, items_outline, members_outline, compact_text}
use Rattle.serde_json.proofs.Numbers.{number_of-decimal, number_of-negative}
use Rattle.serde_json.proofs.Texts.{print-outline}
use Rattle.lsp_messages.specs.Replies.{natural_json, integer_json}
use Rattle.lsp_messages.specs.Written.{IsReadable}

mutual
  depth-outline : (d : Data) → tree.depth (outline d) ≡ depth d
  depth-outline null = refl
  depth-outline (boolean b) = refl
  depth-outline (number n) = refl
  depth-outline (string s) = refl
  depth-outline (array ds) = ap suc (depth-items_outline ds)
  depth-outline (object ms) = ap suc (depth-members_outline ms)

  depth-items_outline : (ds : Items) → tree.items_depth (items_outline ds) ≡ items_depth ds
  depth-items_outline no_items = refl
  depth-items_outline (item d ds) = rw (depth-outline d, depth-items_outline ds) refl

  depth-members_outline : (ms : Members) → tree.members_depth (members_outline ms) ≡ members_depth ms
  depth-members_outline no_members = refl
  depth-members_outline (member k d ms) = rw (depth-outline d, depth-members_outline ms) refl

tokens-compact_text : (d : Data) → HasNumbers (outline d) → tokens (compact_text d) ≡ json_tokens (outline d)
tokens-compact_text d numbers = ap tokens (sym (print-outline d)) ∙ tokens-print (json_tokens (outline d)) (ArePrintable-json_tokens (outline d) numbers)

-- the text of readable data reads as them
pub read-compact_text : (d : Data) → IsReadable d → depth d ≤ 127 → read (compact_text d) ≡ Some d
read-compact_text d readable shallow =
    let low : tree.depth (outline d) ≤ max_depth = omega (arith, depth-outline d) in
    let value = ap (json.value max_depth) (tokens-compact_text d readable.numbers ∙ sym (append-nil _)) ∙ value-json_tokens (outline d) max_depth [] low in
    ap (λ o. option_and_then of_json (option_and_then (λ p. if_last p.0 p.1) o)) value ∙ readable.same

-- ---- numbers and strings

pub IsReadable-natural : (n : ℕ) → n < 2 ^ 64 → IsReadable (natural_json n)
IsReadable-natural n fits = record { numbers = IsNumber-decimal n fits; same = ap (option_map number) (number_of-decimal n fits) }

pub IsReadable-integer : (z : ℤ) → SFits w64 z → IsReadable (integer_json z)
IsReadable-integer (pos n) fits = IsReadable-natural n (grind arith)
IsReadable-integer (negsuc n) fits = record { numbers = IsNumber-signed_decimal (negsuc n) fits.sfits; same = ap (option_map number) (number_of-negative n (grind arith)) }

pub IsReadable-string : (s : List ℕ) → IsReadable (string s)
IsReadable-string s = record { numbers = tt; same = refl }

-- ---- lists

pub record AreReadable (ds : Items) : Type 0 where
  pub numbers : ItemsHaveNumbers (items_outline ds)
  pub same : of_items (items_outline ds) ≡ Some ds

pub AreReadable-none : AreReadable no_items
AreReadable-none = record { numbers = tt; same = refl }

pub AreReadable-item : (d : Data) (ds : Items) → IsReadable d → AreReadable ds → AreReadable (item d ds)
AreReadable-item d ds first rest = record {
  numbers = (first.numbers, rest.numbers);
  same = ap (option_and_then (λ e. option_map (item e) (of_items (items_outline ds)))) first.same ∙ ap (option_map (item d)) rest.same;
}

pub IsReadable-array : (ds : Items) → AreReadable ds → IsReadable (array ds)
IsReadable-array ds all = record { numbers = all.numbers; same = ap (option_map array) all.same }

-- ---- objects: members that are put one after the other into those before

pub record AreMembersReadable (before ms after : Members) : Type 0 where
  pub numbers : MembersHaveNumbers (members_outline ms)
  pub same : of_members (members_outline ms) before ≡ Some after

pub no_more : (found : Members) → AreMembersReadable found no_members found
no_more found = record { numbers = tt; same = refl }

pub and_member : (k : List ℕ) (d : Data) (before ms after : Members) → IsReadable d → AreMembersReadable (put k d before) ms after → AreMembersReadable before (member k d ms) after
and_member k d before ms after first rest = record {
  numbers = (first.numbers, rest.numbers);
  same = ap (option_and_then (λ e. of_members (members_outline ms) (put k e before))) first.same ∙ rest.same;
}

pub IsReadable-object : (ms : Members) → AreMembersReadable no_members ms ms → IsReadable (object ms)
IsReadable-object ms all = record { numbers = all.numbers; same = ap (option_map object) all.same }
