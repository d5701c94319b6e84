-- What is planned and compared is the rename.
use Rattle.std.proofs.Common.{◌≡◌, ◌+◌, ℕ, List, map, Bool, true, false, cond, Option, Result, Ok, Err, refl, sym, ap, ◌∙◌, subst, arith}
use Rattle.std.specs.FinMap.{entries}
use Rattle.std.specs.Result.{IsErrAnd}
use Rattle.ls_base.specs.declared.answers.DocEdits as told
use Rattle.ls_base.specs.declared.encoding.Encoding.{Encoding}
use Rattle.ls_base.specs.declared.places.Pos.{Pos}
use Rattle.scheme_model.specs.declared.Occ.{Occ}
use Rattle.scheme_model.specs.Program.{units_of}
use Rattle.rename_model.specs.Difference.{Difference, first_difference}
use Rattle.document_store.specs.Texts.{Document, Texts}
use Rattle.read_documents.specs.Readings.{Read, AreReadAs, documents_in, program_in, uses_in}
use Rattle.program_answers.specs.ToldAnswers.{name_there}
use Rattle.program_differences.specs.Differences.{plan_as}
use Rattle.program_differences.specs.declared.plan.Difference as code
use Rattle.program_differences.specs.Exported.{changes_as}
use Rattle.rename_conditions.specs.Readers.{Reader, IsReader}
use Rattle.rename_conditions.specs.Opened.{Opened, edited_in, plan_in, program_read}
use Rattle.rename_conditions.specs.Renames.{Refusal, Differs, ◌>>=◌, unless, difference_by, rename_in}
use Rattle.document_changes.specs.Edited.{edited_texts}
use Rattle.document_changes.proofs.EditedLaws.{edited_entries}
use Rattle.rename_planner.specs.Planning.{ComesTo, Holds, IsPlanned, planned_in}
use Rattle.rename_answers.specs.ReadDocuments.{read_as}
use Rattle.rename_answers.specs.RenameOutcomes.{AnswersAs}
use Rattle.rename_answers.specs.ToldRenames.{edited_by, identifier_at, is_tried, opened_as, rename_at, rename_uses, text_uses, texts_of, uris_of}
use Rattle.rename_answers.specs.declared.faults.RenameFault.{RenameFault}
use Rattle.rename_answers.specs.declared.faults.RenameFault.TheVariants as faults
use Rattle.rename_planner.specs.declared.planning.Planned.{Planned}
use Rattle.rename_planner.proofs.BindLaws.{AreEdits, answers, bind_err, bind_ok, compared_in, rename_parted}
use Rattle.rename_planner.proofs.CompareLaws.{same_uris}
use Rattle.rename_answers.proofs.MemberLaws.{difference_same}
use Rattle.rename_answers.proofs.ReadersAgree.{opened_is_read, program_is_read}
use Rattle.rename_planner.proofs.ReadingLaws.{uses_one}
use Rattle.rename_planner.proofs.StepLaws.{identifier_same}
use Rattle.rename_planner.proofs.UsesLaws.{IsUntried, planned_untried, texts_led, tried, untried}

module _ (r : Reader) (is : IsReader r) (e : Encoding) (texts : Texts) (rs : List Read) (are : AreReadAs (entries texts) rs) where
  abbrev ds : List (List ℕ × Document)
  ds = entries texts

  abbrev w : Opened
  w = read_as ds rs

  -- as it is read
  pub rename_is : (uri : List ℕ) (position : Pos) (new : List ℕ) → rename_at r e ds uri position new ≡ rename_in r w (name_there e ds rs uri position) new
  rename_is uri position new =
      let o = opened_is_read r is ds rs are in
      (λ j. rename_in r (o j) (identifier_at e ds (o j) uri position) new) ∙ ap (λ at. rename_in r w at new) (identifier_same e ds rs uri position)

  -- ---- the difference

  -- the texts once they are edited
  now_edited : (p : Planned) (c : Occ × List ℕ) → IsPlanned e ds w c p → texts_of (entries (edited_texts e p.edits texts)) ≡ edited_in w c.0 c.1
  now_edited p c is_planned = ap texts_of (edited_entries e p.edits texts) ∙ is_planned.texts

  difference_is : (p : Planned) (c : Occ × List ℕ) (ts : List Read) → IsPlanned e ds w c p → AreReadAs (entries (edited_texts e p.edits texts)) ts →
      first_difference (units_of (documents_in rs)) (program_in rs) (program_in ts) (plan_as p.plan) ≡ difference_by r w c.0 c.1
  difference_is p c ts is_planned there =
      let same : program_in ts ≡ program_read r w.uris (edited_in w c.0 c.1) =
      sym (program_is_read r is (entries (edited_texts e p.edits texts)) ts there) ∙ (λ j. program_read r (same_uris e p.edits texts j) (now_edited p c is_planned j)) in
      difference_same p.plan.class (plan_in w c.0 c.1).members is_planned.members (units_of (documents_in rs)) (program_in rs) (program_in ts) (changes_as p.plan.exports) (plan_in w c.0 c.1).exports is_planned.exports
      ∙ ap (λ q. first_difference (units_of (documents_in rs)) (program_in rs) q (plan_in w c.0 c.1)) same

  module _ (at : Option Occ) (new : List ℕ) where
    abbrev planned : Result (Occ × List ℕ) Refusal
    planned = planned_in w at (r.symbol new)

    answer_from : (result : Result (List told.DocEdits) RenameFault) → ComesTo e ds (AreEdits e ds) (planned >>= compared_in r w) result → AnswersAs e ds (rename_in r w at new) result
    answer_from result h = answers e ds (rename_in r w at new) result (subst (λ s. ComesTo e ds (AreEdits e ds) s result) (rename_parted r w at new) h)

    pub fails : (fault : RenameFault) → ComesTo e ds (IsPlanned e ds w) planned (Err fault) → AnswersAs e ds (rename_in r w at new) (Err fault)
    fails fault h = answer_from (Err fault) (bind_err e ds (IsPlanned e ds w) (AreEdits e ds) planned (compared_in r w) fault h)

    module _ (p : Planned) (h1 : ComesTo e ds (IsPlanned e ds w) planned (Ok p)) (ts : List Read) (there : AreReadAs (entries (edited_texts e p.edits texts)) ts) where
      abbrev found : Option Difference
      found = first_difference (units_of (documents_in rs)) (program_in rs) (program_in ts) (plan_as p.plan)

      pub refused_now : (fault : RenameFault) → ComesTo {B = Unit {0}} e ds Holds (unless found Differs) (Err fault) → AnswersAs e ds (rename_in r w at new) (Err fault)
      refused_now fault h = answer_from (Err fault) (bind_ok e ds (IsPlanned e ds w) (AreEdits e ds) planned (compared_in r w) p (Err fault) h1 (λ c q is_planned.
          bind_err {B = Unit {0}} e ds Holds (AreEdits e ds) (unless (difference_by r w c.0 c.1) Differs) _ fault
          (subst (λ o. ComesTo {B = Unit {0}} e ds Holds (unless o Differs) (Err fault)) (difference_is p c ts is_planned there) h)))

      pub renamed_now : ComesTo {B = Unit {0}} e ds Holds (unless found Differs) (Ok tt) → AnswersAs e ds (rename_in r w at new) (Ok p.edits)
      renamed_now h = answer_from (Ok p.edits) (bind_ok e ds (IsPlanned e ds w) (AreEdits e ds) planned (compared_in r w) p (Ok p.edits) h1 (λ c q is_planned.
          bind_ok {B = Unit {0}} e ds Holds (AreEdits e ds) (unless (difference_by r w c.0 c.1) Differs) _ tt (Ok p.edits)
          (subst (λ o. ComesTo {B = Unit {0}} e ds Holds (unless o Differs) (Ok tt)) (difference_is p c ts is_planned there) h) (λ a k l. is_planned.edits)))

-- ---- what fails before programs are compared

no_difference : {A B : Type 0} (e : Encoding) (ds : List (List ℕ × Document)) (P : A → B → Type 0) (s : Result A Refusal) (d : code.Difference) → IsUntried s → ComesTo e ds P s (Err (faults.Differs d)) → ⊥
no_difference e ds P (Ok a) d h k = absurd cc
no_difference e ds P (Err refusal) d h k =
    let was : is_tried (Err refusal) ≡ true = ap (λ (x : Refusal). is_tried (Err x)) k.1 in
    let same : true ≡ false = sym was ∙ h in
    absurd cc

pub never_differs : (e : Encoding) (ds : List (List ℕ × Document)) (w : Opened) (at : Option Occ) (symbol : Option (List ℕ)) (d : code.Difference) (fault : RenameFault) →
    fault ≡ faults.Differs d → ComesTo e ds (IsPlanned e ds w) (planned_in w at symbol) (Err fault) → ⊥
never_differs e ds w at symbol d fault same h =
    no_difference e ds (IsPlanned e ds w) (planned_in w at symbol) d (planned_untried w at symbol) (subst (λ (f : RenameFault). ComesTo e ds (IsPlanned e ds w) (planned_in w at symbol) (Err f)) same h)

refusal_there : {A B : Type 0} (e : Encoding) (ds : List (List ℕ × Document)) (P : A → B → Type 0) (s : Result A Refusal) (fault : RenameFault) → (fault ≡ faults.Memory → ⊥) → ComesTo e ds P s (Err fault) → (refusal : Refusal) × (s ≡ Err refusal)
refusal_there e documents P (Ok a) fault free h = absurd (free h)
refusal_there e documents P (Err refusal) fault free h = (refusal, refl)

value_there : {A B : Type 0} (e : Encoding) (ds : List (List ℕ × Document)) (P : A → B → Type 0) (s : Result A Refusal) (b : B) → ComesTo e ds P s (Ok b) → (a : A) × (s ≡ Ok a) × P a b
value_there e documents P (Ok a) b h = (a, refl, h)
value_there e documents P (Err refusal) b h = absurd h

-- a fault is handed on
pub handed : {X : Type 0} (result : Result X RenameFault) (fault : RenameFault) → IsErrAnd result (λ f. f ≡ fault) → result ≡ Err fault
handed (Ok x) fault h = absurd h
handed (Err f) fault h = ap (λ (g : RenameFault). Err g) h

pub handed_as : {X : Type 0} (result : Result X RenameFault) (fault other : RenameFault) → IsErrAnd result (λ f. f ≡ fault) → result ≡ Err other → fault ≡ other
handed_as (Ok x) fault other h k = absurd h
handed_as (Err f) fault other h k = let same : f ≡ other = cc in sym h ∙ same

abbrev pub fault_in : Result (Unit {0}) RenameFault → RenameFault
fault_in (Ok x) = faults.Memory
fault_in (Err f) = f

-- ---- the macro uses that are counted

pub adds_none : (n m : ℕ) → m ≡ 0 → n ≡ n + m
adds_none n m h = omega (arith, h)

module _ (r : Reader) (is : IsReader r) (e : Encoding) (texts : Texts) (rs : List Read) (are : AreReadAs (entries texts) rs) (uri : List ℕ) (position : Pos) (new : List ℕ) where
  abbrev read : Opened
  read = read_as (entries texts) rs

  abbrev place : Option Occ
  place = name_there e (entries texts) rs uri position

  abbrev uses_by : Bool → ℕ
  uses_by b = cond b (text_uses r (uris_of (entries texts)) (edited_by (opened_as r (entries texts)) (identifier_at e (entries texts) (opened_as r (entries texts)) uri position) (r.symbol new))) 0

  tried_as : (b : Bool) → is_tried (rename_in r read place new) ≡ b → rename_uses r e (entries texts) uri position new ≡ uses_by b
  tried_as b h = ap uses_by (ap is_tried (rename_is r is e texts rs are uri position new) ∙ h)

  pub not_counted : (fault : RenameFault) → (fault ≡ faults.Memory → ⊥) → ComesTo e (entries texts) (IsPlanned e (entries texts) read) (planned_in read place (r.symbol new)) (Err fault) → rename_uses r e (entries texts) uri position new ≡ 0
  not_counted fault free h =
      let there = refusal_there e (entries texts) (IsPlanned e (entries texts) read) (planned_in read place (r.symbol new)) fault free h in
      tried_as false (untried r read place new there.0 there.1)

  edited_as : edited_by (opened_as r (entries texts)) (identifier_at e (entries texts) (opened_as r (entries texts)) uri position) (r.symbol new) ≡ edited_by read place (r.symbol new)
  edited_as =
      let o = opened_is_read r is (entries texts) rs are in
      (λ j. edited_by (o j) (identifier_at e (entries texts) (o j) uri position) (r.symbol new)) ∙ ap (λ at. edited_by read at (r.symbol new)) (identifier_same e (entries texts) rs uri position)

  pub counted : (p : Planned) → ComesTo e (entries texts) (IsPlanned e (entries texts) read) (planned_in read place (r.symbol new)) (Ok p) →
      (ts : List Read) → AreReadAs (entries (edited_texts e p.edits texts)) ts → rename_uses r e (entries texts) uri position new ≡ uses_in ts
  counted p h ts there =
      let it = value_there e (entries texts) (IsPlanned e (entries texts) read) (planned_in read place (r.symbol new)) p h in
      tried_as true (tried r read place new it.0 it.1)
      ∙ ap (text_uses r (uris_of (entries texts))) (edited_as ∙ texts_led read place (r.symbol new) it.0 it.1 ∙ sym (now_edited r is e texts rs are p it.0 it.2))
      ∙ ap (λ us. text_uses r us (texts_of (entries (edited_texts e p.edits texts)))) (sym (same_uris e p.edits texts))
      ∙ uses_one r is (entries (edited_texts e p.edits texts)) ts there
