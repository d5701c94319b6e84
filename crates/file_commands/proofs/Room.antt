-- There is room for each file, and each is short enough, so that none is refused.
use Rattle.std.proofs.Common.{◌≡◌, ◌<◌, ◌≤◌, ◌+◌, ◌||◌, ℕ, pos, suc, cond, Bool, true, false, List, ◌∷◌, length, Option, Some, None, Vec, Global, sym, ap, ◌∙◌, arith, subst}
use Rattle.std.proofs.Math.Bool.{or-true}
use Rattle.std.proofs.lemmas.Bool.{lt-ltb}
use Rattle.std.specs.Cmp.Lexicographic.{nat_list_cmp_total}
use Rattle.std.specs.FinMap.{contains_key, insert, len, len-insert}
use Rattle.std.specs.List.{AllByRecursion}
use Rattle.std.specs.Str.{is_utf8}
use Rattle.ls_base.specs.Limits.{max_documents, max_text}
use Rattle.document_store.specs.Texts.{Refusal, Texts, added, has_room, is_open}
use Rattle.document_store.proofs.Events.{adds}
use Rattle.file_commands.specs.Checking.{bytes_in, open_file}

-- ---- one file

pub accepted : (old new : Texts) (name content : List ℕ) (refusal : Refusal) → len old < max_documents → length content ≤ max_text → added old name (pos 0) content ≡ (new, Some refusal) → ⊥
accepted old new name content refusal room short is =
    let there : has_room old name ≡ true = ap (λ b. is_open old name || b) (lt-ltb (len old) max_documents room) ∙ or-true (is_open old name) in
    let f : ◌≡◌ {A = Option Refusal} (Some refusal) None = ap (λ (p : Texts × Option Refusal). p.1) (sym is ∙ adds old name (pos 0) content there short) in
    absurd cc

one_more : (there : Bool) (n m : ℕ) → m ≡ cond there n (n + 1) → m ≤ n + 1
one_more true n m e = omega (arith, e)
one_more false n m e = omega (arith, e)

opened_by : (text : Bool) (texts : Texts) (name content : List ℕ) → len (cond text (insert texts name (pos 0, content)) texts) ≤ len texts + 1
opened_by true texts name content = one_more (contains_key texts name) (len texts) _ (len-insert nat_list_cmp_total texts name (pos 0, content))
opened_by false texts name content = omega arith

-- a file opens one document at most
pub at_most_one : (texts : Texts) (name content : List ℕ) → len (open_file texts (name, content)) ≤ len texts + 1
at_most_one texts name content = opened_by (is_utf8 content) texts name content

-- ---- one file after another

-- there is room for the files that are left, and each is short enough
pub record Fit (texts : Texts) (names : List (List ℕ)) (contents : List (Vec ℕ Global)) : Type 0 where
  pub room : len texts + length names ≤ max_documents
  pub short : AllByRecursion (λ content. length content ≤ max_text) (bytes_in contents)

module _ (texts : Texts) (ns ms : List (List ℕ)) (vs ws : List (Vec ℕ Global)) (n : List ℕ) (v : Vec ℕ Global) (ns_are : ns ≡ n ∷ ms) (vs_are : vs ≡ v ∷ ws) (fit : Fit texts ns vs) where
  room_then : len texts + suc (length ms) ≤ max_documents
  room_then = subst (λ (xs : List (List ℕ)). len texts + length xs ≤ max_documents) ns_are fit.room

  short_then : AllByRecursion (λ content. length content ≤ max_text) (bytes_in (v ∷ ws))
  short_then = subst (λ (xs : List (Vec ℕ Global)). AllByRecursion (λ content. length content ≤ max_text) (bytes_in xs)) vs_are fit.short

  pub fits_now : (len texts < max_documents) × (length v.items ≤ max_text)
  fits_now = (omega (arith, room_then), short_then.0)

  pub fit_after : (after : Texts) (bytes : List ℕ) → bytes ≡ v.items → after ≡ open_file texts (n, bytes) → Fit after ms ws
  fit_after after bytes same is = record {
    room = omega (arith, room_then, at_most_one texts n bytes, ap (λ (t : Texts). len t) is);
    short = short_then.1;
  }
