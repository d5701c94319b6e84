-- Nothing is prepared exactly where no identifier is bound or a standard name spells it.
use Rattle.std.proofs.Common.{◌≡◌, ◌↔◌, ℕ, ◌==◌, List, [], ◌∷◌, length, Bool, true, false, Option, Some, None, Result, Ok, Err, cond, arith, refl, sym, ap, ◌∙◌, subst}
use Rattle.std.proofs.lemmas.Bool.{eqb-true}
use Rattle.std.specs.Prelude.{◌&&◌}
use Rattle.std.specs.Option.{ok_or}
use Rattle.std.specs.FinMap.{entries}
use Rattle.ls_base.specs.Positions.{offset_of}
use Rattle.ls_base.specs.declared.answers.Answer as told
use Rattle.ls_base.specs.declared.answers.Answer.TheVariants as answers
use Rattle.ls_base.specs.declared.encoding.Encoding.{Encoding}
use Rattle.ls_base.specs.declared.places.Pos.{Pos}
use Rattle.ls_base.specs.declared.places.Range.{Range}
use Rattle.scheme_model.specs.declared.Occ.{Occ}
use Rattle.scheme_model.specs.Answers.{Facts, Nothing, Prepared, answer_at, is_bound, ordered_by, put_by}
use Rattle.scheme_model.specs.Entries.{is_below}
use Rattle.scheme_model.specs.Session.{Prepare}
use Rattle.scheme_model.specs.Sites.{name_at}
use Rattle.scheme_model.specs.Spelling.{class_of, is_joined, standard_origins}
use Rattle.document_store.specs.Texts.{Document, Texts}
use Rattle.read_documents.specs.Places.{spans_of}
use Rattle.read_documents.specs.Readings.{Read, AreReadAs, program_in}
use Rattle.program_answers.specs.ToldAnswers.{answer_by, answer_of, answer_told, facts_in, name_by, name_there, number_of, text_of}
use Rattle.rename_conditions.specs.Readers.{Reader, IsReader}
use Rattle.rename_conditions.specs.Opened.{Opened, DocEdits, edited_in, edits_in, told_edits}
use Rattle.rename_conditions.specs.Renames.{Refusal, NotBound, IsStandard, BadName, Unreadable, PrefixLost, PrefixClash, TooLong, Differs, ◌>>=◌, unless, first_of, new_symbol, first_unread, clashes, errors_in_reach, first_too_long, difference_by, broken, rename_in, standard_names}
use Rattle.text_edits.specs.Members.{prefix_of, stem_of}
use Rattle.rename_planner.specs.Preparing.{IsUnnamed, prepared_told}
use Rattle.rename_answers.specs.ReadDocuments.{read_as}
use Rattle.rename_answers.specs.ToldRenames.{rename_at}
use Rattle.rename_planner.specs.declared.preparing.Prepared as code
use Rattle.rename_answers.proofs.ConditionLaws.{standards_same}
use Rattle.rename_planner.proofs.RenameLaws.{rename_is}

past_or : {A : Type 0} (o : Option A) (why : Refusal) (f : A → Result (List DocEdits) Refusal) → (IsUnnamed (Err why) → ⊥) → ((a : A) → IsUnnamed (f a) → ⊥) → IsUnnamed (ok_or o why >>= f) → ⊥
past_or None why f h k = h
past_or (Some a) why f h k = k a

past_unless : {A : Type 0} (o : Option A) (why : A → Refusal) (f : Unit {0} → Result (List DocEdits) Refusal) → ((a : A) → IsUnnamed (Err (why a)) → ⊥) → (IsUnnamed (f tt) → ⊥) → IsUnnamed (unless o why >>= f) → ⊥
past_unless None why f h k = k
past_unless (Some a) why f h k = h a

-- the conditions behind the first two
abbrev pub behind_two : Reader → Opened → Occ → (new : List ℕ) → Result (List DocEdits) Refusal
behind_two r w o new =
    ok_or (new_symbol (r.symbol new)) BadName >>= λ name.
    unless (first_unread 0 w.readings) Unreadable >>= λ done.
    ok_or (stem_of (prefix_of w.links o) name) (PrefixLost (prefix_of w.links o)) >>= λ stem.
    unless (first_of (clashes w o)) PrefixClash >>= λ done.
    unless (first_of (errors_in_reach w o)) broken >>= λ done.
    unless (first_too_long 0 (edited_in w o stem)) TooLong >>= λ done.
    unless (difference_by r w o stem) Differs >>= λ done.
    Ok (told_edits (edits_in w o stem))

pub named_behind : (r : Reader) (w : Opened) (o : Occ) (new : List ℕ) → IsUnnamed (behind_two r w o new) → ⊥
named_behind r w o new =
    past_or (new_symbol (r.symbol new)) BadName _ (λ u. u) (λ name.
    past_unless (first_unread 0 w.readings) Unreadable _ (λ n u. u) (
    past_or (stem_of (prefix_of w.links o) name) (PrefixLost (prefix_of w.links o)) _ (λ u. u) (λ stem.
    past_unless (first_of (clashes w o)) PrefixClash _ (λ b u. u) (
    past_unless (first_of (errors_in_reach w o)) broken _ (λ d u. u) (
    past_unless (first_too_long 0 (edited_in w o stem)) TooLong _ (λ n u. u) (
    past_unless (difference_by r w o stem) Differs _ (λ d u. u) (λ u. u)))))))

-- ---- the first of names in their order

head_put : (x : List ℕ) (ys : List (List ℕ)) → first_of (put_by is_below x ys) ≡ None → ⊥
head_put x [] h = absurd cc
head_put x (y ∷ ys) h = go (is_below x y) (is_below y x) h
  where
    go : (s t : Bool) → first_of (cond s (x ∷ y ∷ ys) (cond t (y ∷ put_by is_below x ys) (y ∷ ys))) ≡ None → ⊥
    go true t k = absurd cc
    go false true k = absurd cc
    go false false k = absurd cc

-- ---- a rename by whether the identifier is joined, and its standard names

abbrev renamed_by : Reader → Opened → Occ → (new : List ℕ) → Bool → List (List ℕ) → Result (List DocEdits) Refusal
renamed_by r w o new joined names = ok_or (cond joined (Some o) None) NotBound >>= λ p. unless (first_of (ordered_by is_below names)) IsStandard >>= λ done. behind_two r w p new

abbrev bound_by : Bool → List (List ℕ) → Bool
bound_by joined names = joined && (length names == 0)

unnamed_by : (r : Reader) (w : Opened) (o : Occ) (new : List ℕ) (joined : Bool) (names : List (List ℕ)) → bound_by joined names ≡ false → IsUnnamed (renamed_by r w o new joined names)
unnamed_by r w o new false names h = tt
unnamed_by r w o new true [] h = absurd cc
unnamed_by r w o new true (x ∷ xs) h = go (first_of (put_by is_below x (ordered_by is_below xs))) refl
  where
    go : (f : Option (List ℕ)) → first_of (put_by is_below x (ordered_by is_below xs)) ≡ f → IsUnnamed (unless f IsStandard >>= λ done. behind_two r w o new)
    go None e = absurd (head_put x (ordered_by is_below xs) e)
    go (Some s) e = tt

never : false ≡ true → ⊥
never h = subst (λ b. cond b ⊥ (Unit {0})) h tt

named_by : (r : Reader) (w : Opened) (o : Occ) (new : List ℕ) (joined : Bool) (names : List (List ℕ)) → bound_by joined names ≡ true → IsUnnamed (renamed_by r w o new joined names) → ⊥
named_by r w o new false names h u = never h
named_by r w o new true [] h u = named_behind r w o new u
named_by r w o new true (x ∷ xs) h u = let e = eqb-true (length (x ∷ xs)) 0 h in absurd (omega (arith, e))

-- ---- what is answered

-- a name that is prepared, or nothing
abbrev pub IsPrepared : told.Answer → Type 0
IsPrepared answers.Nothing = Unit {0}
IsPrepared (answers.Prepared range placeholder) = Unit {0}
IsPrepared (answers.Places places) = ⊥
IsPrepared (answers.Highlights highlights) = ⊥
IsPrepared (answers.Arrows arrows) = ⊥
IsPrepared (answers.Edits edits) = ⊥

module _ (r : Reader) (is : IsReader r) (e : Encoding) (texts : Texts) (rs : List Read) (are : AreReadAs (entries texts) rs) (uri : List ℕ) (position : Pos) (new : List ℕ) where
  abbrev ds : List (List ℕ × Document)
  ds = entries texts

  abbrev f : Facts
  f = facts_in rs

  abbrev w : Opened
  w = read_as ds rs

  abbrev told_at : Option Occ → told.Answer
  told_at None = answers.Nothing
  told_at (Some o) = answer_told e ds (cond (is_bound f o) (Prepared (f.bytes o)) Nothing)

  answer_is : answer_of e ds rs uri position Prepare ≡ told_at (name_there e ds rs uri position)
  answer_is = go (number_of ds uri)
    where
      at : (n : ℕ) (o : Option Occ) → answer_told e ds (answer_at f n o Prepare) ≡ told_at o
      at n None = refl
      at n (Some o) = refl

      go : (n : Option ℕ) → answer_told e ds (answer_by e ds rs n position Prepare) ≡ told_at (name_by e ds rs n position)
      go None = refl
      go (Some n) = at n (name_at (spans_of rs) (program_in rs).units n (offset_of e (text_of ds n) position))

  rename_there : (o : Occ) → rename_in r w (Some o) new ≡ renamed_by r w o new (is_joined f.links o) (standard_origins f.links (class_of f.links o))
  rename_there o = go (is_joined f.links o)
    where
      go : (b : Bool) → (ok_or (cond b (Some o) None) NotBound >>= λ p. unless (first_of (standard_names w p)) IsStandard >>= λ done. behind_two r w p new) ≡ renamed_by r w o new b (standard_origins f.links (class_of f.links o))
      go true = ap (λ names. unless (first_of (ordered_by is_below names)) IsStandard >>= λ done. behind_two r w o new) (standards_same f.links (class_of f.links o))
      go false = refl

  -- what is prepared, where the answer is told so
  by_place : (at : Option Occ) (p : Option code.Prepared) → prepared_told p ≡ told_at at → (p ≡ None → IsUnnamed (rename_in r w at new)) × (IsUnnamed (rename_in r w at new) → p ≡ None)
  by_place None None h = (λ k. tt, λ u. refl)
  by_place None (Some p) h = absurd cc
  by_place (Some o) p h = go p (is_bound f o) refl h
    where
      unnamed : is_bound f o ≡ false → IsUnnamed (rename_in r w (Some o) new)
      unnamed b = subst IsUnnamed (sym (rename_there o)) (unnamed_by r w o new (is_joined f.links o) (standard_origins f.links (class_of f.links o)) b)

      named : is_bound f o ≡ true → IsUnnamed (rename_in r w (Some o) new) → ⊥
      named b u = named_by r w o new (is_joined f.links o) (standard_origins f.links (class_of f.links o)) b (subst IsUnnamed (rename_there o) u)

      go : (p : Option code.Prepared) (b : Bool) → is_bound f o ≡ b → prepared_told p ≡ answer_told e ds (cond b (Prepared (f.bytes o)) Nothing) → (p ≡ None → IsUnnamed (rename_in r w (Some o) new)) × (IsUnnamed (rename_in r w (Some o) new) → p ≡ None)
      go None true b k = absurd cc
      go None false b k = (λ q. unnamed b, λ u. refl)
      go (Some p) true b k = (λ q. absurd cc, λ u. absurd (named b u))
      go (Some p) false b k = absurd cc

  pub prepared_exactly : (p : Option code.Prepared) → prepared_told p ≡ answer_of e ds rs uri position Prepare → p ≡ None ↔ IsUnnamed (rename_at r e ds uri position new)
  prepared_exactly p h =
      let at = name_there e ds rs uri position in
      let both = by_place at p (h ∙ answer_is) in
      let same = rename_is r is e texts rs are uri position new in
      (λ k. subst IsUnnamed (sym same) (both.0 k), λ u. both.1 (subst IsUnnamed same u))

  all_prepared : (at : Option Occ) → IsPrepared (told_at at)
  all_prepared None = tt
  all_prepared (Some o) = go (is_bound f o)
    where
      go : (b : Bool) → IsPrepared (answer_told e ds (cond b (Prepared (f.bytes o)) Nothing))
      go true = tt
      go false = tt

  -- nothing else is answered
  pub prepared_alone : (answer : told.Answer) → answer ≡ answer_of e ds rs uri position Prepare → IsPrepared answer
  prepared_alone answer h = subst IsPrepared (sym (h ∙ answer_is)) (all_prepared (name_there e ds rs uri position))
