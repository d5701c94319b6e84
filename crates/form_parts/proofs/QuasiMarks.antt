-- Marks of a quasiquotation by number: those of an identifier, of a tree and of trees in a row.
use Rattle.std.proofs.Common.{◌≡◌, ℕ, ◌+◌, List, [], ◌∷◌, ◌++◌, Bool, true, false, Option, Some, None, refl, sym, ap, ◌∙◌, arith}
use Rattle.std.specs.Prelude.{◌||◌, nat_eq, if◌then◌else◌}
use Rattle.std.proofs.lemmas.Bool.Decides.{nat_tests}
use Rattle.std.proofs.lemmas.Option.{same_Some}
use Rattle.scheme_model.specs.Trees.{Tree, Trees, no_trees, tree}
use Rattle.scheme_model.specs.Matching.{behind}
use Rattle.scheme_model.specs.Keywords.{CoreKeyword, IsQuote, IsQuasiquote, IsLambda, IsCaseLambda, IsIf, IsSet, IsBegin, IsDefine, IsDefineValues, IsDefineRecordType, IsDefineSyntax, IsLetSyntax, IsLetrecSyntax, IsCondExpand, IsSyntaxError, IsInclude}
use Rattle.scheme_model.specs.Meaning.{IsCore}
use Rattle.scheme_model.specs.Building.{stands_in, stands_among}
use Rattle.scheme_model.specs.Quasiquote.{Mark, Nested, Unquoted, Spliced}
use Rattle.scheme_model.specs.Expression.{mark_of}
use Rattle.scheme_model.specs.Ident.{Ident as Identifier, same_ident}
use Rattle.syntax_tree.specs.Names.{Names, AreToldApart}
use Rattle.syntax_tree.specs.Macros.{IsIdent}
use Rattle.syntax_tree.specs.declared.trees.Work.{Work}
use Rattle.syntax_tree.proofs.InternLaws.{ident_told}
use Rattle.syntax_tree.proofs.RoleLaws.{same_by_number}
use Rattle.core_forms.specs.Ends.{keyword_as}
use Rattle.core_forms.specs.Marks.{keyword_by_number, kind_if_any, mark_as, AreMarks}
use Rattle.core_forms.specs.declared.shape.QuasiMark.{QuasiMark}
use Rattle.core_forms.specs.declared.shape.CoreKeyword as code
use Rattle.core_forms.specs.declared.shape.CoreKeyword.TheVariants as word
use Rattle.form_parts.specs.Marked.{mark_word, mark_within, first_some, AddsMarks}

-- ---- what keywords mark

by_keyword : (c : code.CoreKeyword) (m k : CoreKeyword) → mark_word (mark_of (IsCore m)) ≡ None → Some m ≡ Some k → None ≡ mark_word (mark_of (IsCore k))
by_keyword c m k h e = sym h ∙ ap (λ (x : CoreKeyword). mark_word (mark_of (IsCore x))) (same_Some m k e)

-- no other keyword of a core form is a mark
pub no_mark : (c : code.CoreKeyword) (k : CoreKeyword) → (c ≡ word.Quasiquote → ⊥) → keyword_as c ≡ Some k → None ≡ mark_word (mark_of (IsCore k))
no_mark word.Quote k h e = by_keyword word.Quote IsQuote k refl e
no_mark word.Quasiquote k h e = absurd (h refl)
no_mark word.Unquote k h e = absurd cc
no_mark word.UnquoteSplicing k h e = absurd cc
no_mark word.Lambda k h e = by_keyword word.Lambda IsLambda k refl e
no_mark word.CaseLambda k h e = by_keyword word.CaseLambda IsCaseLambda k refl e
no_mark word.If k h e = by_keyword word.If IsIf k refl e
no_mark word.Set k h e = by_keyword word.Set IsSet k refl e
no_mark word.Begin k h e = by_keyword word.Begin IsBegin k refl e
no_mark word.Define k h e = by_keyword word.Define IsDefine k refl e
no_mark word.DefineValues k h e = by_keyword word.DefineValues IsDefineValues k refl e
no_mark word.DefineRecordType k h e = by_keyword word.DefineRecordType IsDefineRecordType k refl e
no_mark word.DefineSyntax k h e = by_keyword word.DefineSyntax IsDefineSyntax k refl e
no_mark word.LetSyntax k h e = by_keyword word.LetSyntax IsLetSyntax k refl e
no_mark word.LetrecSyntax k h e = by_keyword word.LetrecSyntax IsLetrecSyntax k refl e
no_mark word.CondExpand k h e = by_keyword word.CondExpand IsCondExpand k refl e
no_mark word.SyntaxError k h e = by_keyword word.SyntaxError IsSyntaxError k refl e
no_mark word.Include k h e = by_keyword word.Include IsInclude k refl e
no_mark word.IncludeCi k h e = by_keyword word.IncludeCi IsInclude k refl e

pub quasiquote_mark : (c : code.CoreKeyword) (k : CoreKeyword) → c ≡ word.Quasiquote → keyword_as c ≡ Some k → Some word.Quasiquote ≡ mark_word (mark_of (IsCore k))
quasiquote_mark c k h e = ap (λ (x : CoreKeyword). mark_word (mark_of (IsCore x))) (same_Some IsQuasiquote k (sym (ap keyword_as h) ∙ e))

-- ---- marks that are added

first_none : (o : Option code.CoreKeyword) → first_some o None ≡ o
first_none None = refl
first_none (Some k) = refl

first_or : (o p : Option code.CoreKeyword) (a b : Bool) → first_some (first_some o (if a then p else None)) (if b then p else None) ≡ first_some o (if a || b then p else None)
first_or (Some k) p a b = refl
first_or None p false b = refl
first_or None None true true = refl
first_or None None true false = refl
first_or None (Some k) true b = refl

nat_flip : (m n : ℕ) → nat_eq m n ≡ nat_eq n m
nat_flip m n = grind (arith, nat_tests)

push_mark : (ms : List QuasiMark) (m : QuasiMark) (n : ℕ) → keyword_by_number (ms ++ m ∷ []) n ≡ first_some (keyword_by_number ms n) (if nat_eq n m.ident then Some m.keyword else None)
push_mark [] m n = refl
push_mark (u ∷ us) m n =
    elim (nat_eq n u.ident) as (λ b. (if b then Some u.keyword else keyword_by_number (us ++ m ∷ []) n) ≡ first_some (if b then Some u.keyword else keyword_by_number us n) (if nat_eq n m.ident then Some m.keyword else None)) [
      | true ↦ refl
      | false ↦ push_mark us m n
    ]

module _ (names : Names) (mark : Identifier → Option Mark) where
  -- nothing is added
  pub adds_none : (ms : List QuasiMark) (stands : Identifier → Bool) → ((i : Identifier) → stands i ≡ false) → AddsMarks names ms ms mark stands
  adds_none ms stands h n i is = sym (ap (λ (b : Bool). first_some (keyword_by_number ms n) (if b then mark_word (mark i) else None)) (h i) ∙ first_none (keyword_by_number ms n))

  -- more is added
  pub adds_both : (a b c : List QuasiMark) (f g : Identifier → Bool) → AddsMarks names a b mark f → AddsMarks names b c mark g → AddsMarks names a c mark (λ i. f i || g i)
  adds_both a b c f g h k n i is =
      k n i is ∙ ap (λ (o : Option code.CoreKeyword). first_some o (if g i then mark_word (mark i) else None)) (h n i is) ∙ first_or (keyword_by_number a n) (mark_word (mark i)) (f i) (g i)

  -- the same by another test
  pub adds_as : (a b : List QuasiMark) (f g : Identifier → Bool) → ((i : Identifier) → f i ≡ g i) → AddsMarks names a b mark f → AddsMarks names a b mark g
  adds_as a b f g e h n i is = h n i is ∙ ap (λ (t : Bool). first_some (keyword_by_number a n) (if t then mark_word (mark i) else None)) (e i)

  -- one identifier
  module _ (apart : AreToldApart names.idents) (m : ℕ) (j : Identifier) (at : IsIdent names m j) where
    pub adds_one : (ms : List QuasiMark) (k : code.CoreKeyword) → Some k ≡ mark_word (mark j) → AddsMarks names ms (ms ++ record { ident = m; keyword = k } ∷ []) mark (λ i. same_ident i j)
    adds_one ms k h n i is =
        push_mark ms (record { ident = m; keyword = k }) n
        ∙ ap (λ (b : Bool). first_some (keyword_by_number ms n) (if b then Some k else None)) (nat_flip n m ∙ sym (same_by_number names apart n m i j is at))
        ∙ ap (first_some (keyword_by_number ms n)) (go (same_ident i j) refl)
      where
        go : (b : Bool) → same_ident i j ≡ b → (if b then Some k else None) ≡ (if b then mark_word (mark i) else None)
        go true e = h ∙ ap (λ (x : Identifier). mark_word (mark x)) (sym (ident_told i j e))
        go false e = refl

    pub adds_no_mark : (ms : List QuasiMark) → None ≡ mark_word (mark j) → AddsMarks names ms ms mark (λ i. same_ident i j)
    adds_no_mark ms h n i is = sym (ap (first_some (keyword_by_number ms n)) (go (same_ident i j) refl) ∙ first_none (keyword_by_number ms n))
      where
        go : (b : Bool) → same_ident i j ≡ b → (if b then mark_word (mark i) else None) ≡ None
        go true e = ap (λ (x : Identifier). mark_word (mark x)) (ident_told i j e) ∙ sym h
        go false e = refl

word_mark : (m : Option Mark) → mark_as (kind_if_any (mark_word m)) ≡ m
word_mark None = refl
word_mark (Some Nested) = refl
word_mark (Some Unquoted) = refl
word_mark (Some Spliced) = refl

-- the marks of a whole form
pub are_marks : (work : Work) (ms : List QuasiMark) (mark : Identifier → Option Mark) (t : Tree Identifier) → AddsMarks work.symbols [] ms mark (λ i. stands_in same_ident i t) → AreMarks work ms (mark_within t mark)
are_marks work ms mark t h n i is = sym (ap (λ (o : Option code.CoreKeyword). mark_as (kind_if_any o)) (h n i is) ∙ go (stands_in same_ident i t))
  where
    go : (b : Bool) → mark_as (kind_if_any (if b then mark_word (mark i) else None)) ≡ (if b then mark i else None)
    go true = word_mark (mark i)
    go false = refl

-- ---- trees in a row

-- the marks of so many trees are added
abbrev pub AddsUpTo : Names → (Identifier → Option Mark) → List QuasiMark → List QuasiMark → Trees Identifier → ℕ → Type 0
AddsUpTo names mark old now ts k = (n : ℕ) (i : Identifier) → IsIdent names n i →
    first_some (keyword_by_number now n) (if stands_among same_ident i (behind k ts) then mark_word (mark i) else None) ≡ first_some (keyword_by_number old n) (if stands_among same_ident i ts then mark_word (mark i) else None)

module _ (names : Names) (mark : Identifier → Option Mark) (old : List QuasiMark) (ts : Trees Identifier) where
  pub up_none : AddsUpTo names mark old old ts 0
  up_none n i is = refl

  pub up_more : (now new : List QuasiMark) (k : ℕ) (t : Tree Identifier) → behind k ts ≡ tree t (behind (k + 1) ts) → AddsUpTo names mark old now ts k → AddsMarks names now new mark (λ i. stands_in same_ident i t) → AddsUpTo names mark old new ts (k + 1)
  up_more now new k t split so_far more n i is =
      let rest = stands_among same_ident i (behind (k + 1) ts) in
      ap (λ (o : Option code.CoreKeyword). first_some o (if rest then mark_word (mark i) else None)) (more n i is)
      ∙ first_or (keyword_by_number now n) (mark_word (mark i)) (stands_in same_ident i t) rest
      ∙ ap (λ (us : Trees Identifier). first_some (keyword_by_number now n) (if stands_among same_ident i us then mark_word (mark i) else None)) (sym split)
      ∙ so_far n i is

  pub up_all : (now : List QuasiMark) (k : ℕ) → behind k ts ≡ no_trees → AddsUpTo names mark old now ts k → AddsMarks names old now mark (λ i. stands_among same_ident i ts)
  up_all now k past so_far n i is =
      sym (first_none (keyword_by_number now n)) ∙ ap (λ (us : Trees Identifier). first_some (keyword_by_number now n) (if stands_among same_ident i us then mark_word (mark i) else None)) (sym past)
      ∙ so_far n i is
