-- A document is opened where there is room and its text is short.
use Rattle.std.proofs.Common.{◌≡◌, ◌<◌, ◌≤◌, ◌+◌, ◌||◌, ℕ, pos, List, length, Bool, true, false, nat_lt, Option, None, refl, sym, ap, ◌∙◌, subst, arith}
use Rattle.std.specs.FinMap.{entries, insert, len}
use Rattle.std.proofs.lemmas.Bool.{lt-ltb}
use Rattle.ls_base.specs.Limits.{max_documents, max_text}
use Rattle.ls_base.specs.declared.encoding.Encoding.{Encoding}
use Rattle.document_store.specs.Texts.{Added, Refusal, Texts, after, is_open}
use Rattle.document_store.proofs.Events.{adds}
use Rattle.read_documents.specs.Readings.{AreReadAs, Read, uses_in}
use Rattle.program_answers.specs.Updates.{IsNewsOf, Publishes}
use Rattle.program_answers.specs.declared.publications.Published.{Published}
use Rattle.program_answers.proofs.TextLists.{some_row}
use Rattle.rename_conditions.specs.Readers.{IsReader, Reader}
use Rattle.rename_planner.proofs.ReadingLaws.{uses_one}
use Rattle.document_changes.specs.Events.{leaves}
use Rattle.generated_workspace.specs.Selfrun.{uses_of}

or_right : (b c : Bool) → c ≡ true → (b || c) ≡ true
or_right true c h = refl
or_right false c h = h

module _ (e : Encoding) (before now : Texts) (uri text : List ℕ) (room : len before < max_documents) (short : length text ≤ max_text) where
  abbrev outcome : Texts × Option Refusal
  outcome = after e before (Added uri (pos 0) text)

  opening : outcome ≡ (insert before uri (pos 0, text), None)
  opening = adds before uri (pos 0) text (or_right (is_open before uri) (nat_lt (len before) max_documents) (lt-ltb (len before) max_documents room)) short

  not_left : leaves (Added uri (pos 0) text) outcome.1 ≡ false
  not_left = ap (λ (o : Texts × Option Refusal). leaves (Added uri (pos 0) text) o.1) opening

  pub is_opened : now ≡ outcome.0 → now ≡ insert before uri (pos 0, text)
  is_opened is = is ∙ ap (λ (o : Texts × Option Refusal). o.0) opening

  pub is_news : (ps : List Published) → Publishes (leaves (Added uri (pos 0) text) outcome.1) e before now uri ps → IsNewsOf e before now uri ps
  is_news ps h = subst (λ (b : Bool). Publishes b e before now uri ps) not_left h

  pub uses_counted : (was then : ℕ) → (leaves (Added uri (pos 0) text) outcome.1 ≡ false → (rs : List Read) → AreReadAs (entries now) rs → then ≡ was + uses_in rs) → (r : Reader) → IsReader r → then ≡ was + uses_of r now
  unfolding uses_of
  uses_counted was then h r is =
      let row = some_row (entries now) in
      h not_left row.0 row.1 ∙ ap (λ (n : ℕ). was + n) (sym (uses_one r is (entries now) row.0 row.1))

-- ---- sums

pub one_more : (was u v before now w : ℕ) → before ≡ was + u → v ≡ w → now ≡ before + v → now ≡ was + (u + w)
one_more was u v before now w so same more = omega arith

pub both_counted : (was u v before now w : ℕ) → before ≡ was + u → v ≡ w → now ≡ before + v → now ≡ was + u + w
both_counted was u v before now w so same more = omega arith

pub all_uses : (was o u v before now w : ℕ) → before ≡ was + o + u → v ≡ w → now ≡ before + v → now ≡ was + (o + u + w)
all_uses was o u v before now w so same more = omega arith
