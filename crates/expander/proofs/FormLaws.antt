-- A core form that was parsed: it goes on as its shape, or fails as it was misread.
use Rattle.std.proofs.Common.{◌≡◌, ℕ, ◌≤◌, List, [], true, Option, Some, None, Result, Ok, Err, refl, sym, ap, ◌∙◌, subst, ◌⊎◌, inl, inr, slice_get}
use Rattle.std.specs.Result.{IsErrAnd}
use Rattle.scheme_model.specs.declared.Occ.{Occ}
use Rattle.scheme_model.specs.Trees.{Tree, list, Trees, tree, Tail}
use Rattle.scheme_model.specs.Ident.{Ident as Identifier}
use Rattle.scheme_model.specs.Measures.{trees_size}
use Rattle.scheme_model.specs.ExpansionFaults.{Fault, fault_map, BadRules, TwoEllipses, DuplicateVariable, EllipsisDepth, IdleEllipsis, NoRule, EllipsisLength, BadForm, DuplicateBinder, BadPlace, BadRecord, BadQuasi, KeywordRedefined, Duplicate, KeywordAsValue, UseBudget, NodeBudget, DepthBudget, SyntaxError, IncludeRefused, OutOfTurns}
use Rattle.scheme_model.specs.Keywords.{CoreKeyword, IsQuote, IsQuasiquote, IsLambda, IsCaseLambda, IsIf, IsSet, IsBegin, IsDefine, IsDefineValues, IsDefineRecordType, IsDefineSyntax, IsLetSyntax, IsLetrecSyntax, IsCondExpand, IsSyntaxError, IsInclude}
use Rattle.scheme_model.specs.Quasiquote.{Mark}
use Rattle.scheme_model.specs.Requirements.{Known}
use Rattle.scheme_model.specs.Shapes.{Variable, Procedure as define_procedure}
use Rattle.scheme_model.specs.Cores.{Core}
use Rattle.scheme_model.specs.Steps.{Broken, ◌>>=◌}
use Rattle.scheme_model.specs.Order.{Here, head_of, given}
use Rattle.scheme_model.specs.Expression.{mark_of, core_form}
use Rattle.scheme_model.specs.ScopedExpansion.{Frames}
use Rattle.syntax_tree.specs.Works.{StandsFor}
use Rattle.syntax_tree.specs.declared.trees.Work.{Work}
use Rattle.syntax_tree.specs.declared.trees.nodes.Tree as number
use Rattle.syntax_tree.specs.declared.trees.table.Region.{Region}
use Rattle.core_forms.specs.Ends.{keyword_as, ShapeFor, Ends as FormEnds}
use Rattle.core_forms.specs.Forms.{Shape, Quoted, Quasi, Procedure, Procedures, Conditional, Assignment, Sequence, Definition, Several, RecordType, Syntax, Local, Choices, ErrorText, Inclusion, shape_of, shape_in}
use Rattle.core_forms.specs.Named.{ShapeNamed}
use Rattle.core_forms.specs.Marks.{AreMarks}
use Rattle.core_forms.specs.declared.shape.CoreKeyword as code_keyword
use Rattle.core_forms.specs.declared.shape.CoreKeyword.TheVariants as word
use Rattle.core_forms.specs.declared.shape.CoreShape as code_shape
use Rattle.core_forms.specs.declared.shape.CoreShape.TheVariants as shapes
use Rattle.core_forms.specs.declared.shape.QuasiMark.{QuasiMark}
use Rattle.core_forms.specs.declared.fault.CoreFault.{CoreFault}
use Rattle.core_tree.specs.Cores.{CoreStands}
use Rattle.core_tree.specs.Traces.{IsFault}
use Rattle.core_tree.specs.declared.cores.Core as code_core
use Rattle.expander.specs.CoreSteps.{core_step, IsLeft}
use Rattle.form_parts.specs.Marked.{mark_within}
use Rattle.expander.specs.Ready.{Expanding, Reads}
use Rattle.unit_scopes.specs.Told.{told, Tells}
use Rattle.expander.specs.declared.expressions.Ready as code_ready
use Rattle.expander.specs.declared.expressions.Ready.TheVariants as ready
use Rattle.feature_requirements.specs.declared.fault.ExpandFault.{ExpandFault}
use Rattle.feature_requirements.specs.declared.fault.ExpandFault.TheVariants as fault
use Rattle.unit_scopes.specs.declared.scope.UnitScope.{UnitScope}
use Rattle.unit_scopes.proofs.OutcomeLaws.{leaves_itself}
use Rattle.expander.proofs.FitLaws.{shape_fits}
use Rattle.expander.proofs.ShapeLaws.{core_form_is}
use Rattle.form_parts.proofs.QuasiReads.{marks_within}
use Rattle.noted_steps.specs.Asked.{form_asked}
use Rattle.noted_steps.specs.Noting.{Noting, noting}
use Rattle.noted_steps.specs.Standing.{Stands, with_notes}
use Rattle.noted_steps.specs.Outcomes.{EndsHere}
use Rattle.noted_steps.proofs.OutcomeLaws.{stays_itself, noted_stays}
use Rattle.expander.proofs.ListLaws.{reads_behind}

-- ---- marks

no_marks : (work : Work) → AreMarks work [] (λ i. None)
no_marks work n i is = refl

-- the shape of a form that is no quasiquotation doesn't ask for marks
mark_free : (c : CoreKeyword) → (c ≡ IsQuasiquote → ⊥) → (f g : Identifier → Option Mark) (ts : Trees Identifier) (tail : Tail Identifier) → shape_of c true f ts tail ≡ shape_of c true g ts tail
mark_free IsQuote other f g ts tail = refl
mark_free IsQuasiquote other f g ts tail = absurd (other refl)
mark_free IsLambda other f g ts tail = refl
mark_free IsCaseLambda other f g ts tail = refl
mark_free IsIf other f g ts tail = refl
mark_free IsSet other f g ts tail = refl
mark_free IsBegin other f g ts tail = refl
mark_free IsDefine other f g ts tail = refl
mark_free IsDefineValues other f g ts tail = refl
mark_free IsDefineRecordType other f g ts tail = refl
mark_free IsDefineSyntax other f g ts tail = refl
mark_free IsLetSyntax other f g ts tail = refl
mark_free IsLetrecSyntax other f g ts tail = refl
mark_free IsCondExpand other f g ts tail = refl
mark_free IsSyntaxError other f g ts tail = refl
mark_free IsInclude other f g ts tail = refl

abbrev Apart : code_keyword.CoreKeyword → CoreKeyword → Type 0
Apart k c = (k ≡ word.Quasiquote) ⊎ ((k ≡ word.Quasiquote → ⊥) × (c ≡ IsQuasiquote → ⊥))

apart_by : (k : code_keyword.CoreKeyword) (o : Option CoreKeyword) (c : CoreKeyword) → (k ≡ word.Quasiquote → ⊥) → (o ≡ Some IsQuasiquote → ⊥) → o ≡ Some c → Apart k c
apart_by k o c no_word no_keyword is = inr (no_word, λ e. no_keyword (is ∙ ap (λ (d : CoreKeyword). Some d) e))

quasi_or_not : (k : code_keyword.CoreKeyword) (c : CoreKeyword) → keyword_as k ≡ Some c → Apart k c
quasi_or_not word.Quote c h = apart_by word.Quote (Some IsQuote) c (λ e. absurd cc) (λ e. absurd cc) h
quasi_or_not word.Quasiquote c h = inl refl
quasi_or_not word.Unquote c h = absurd cc
quasi_or_not word.UnquoteSplicing c h = absurd cc
quasi_or_not word.Lambda c h = apart_by word.Lambda (Some IsLambda) c (λ e. absurd cc) (λ e. absurd cc) h
quasi_or_not word.CaseLambda c h = apart_by word.CaseLambda (Some IsCaseLambda) c (λ e. absurd cc) (λ e. absurd cc) h
quasi_or_not word.If c h = apart_by word.If (Some IsIf) c (λ e. absurd cc) (λ e. absurd cc) h
quasi_or_not word.Set c h = apart_by word.Set (Some IsSet) c (λ e. absurd cc) (λ e. absurd cc) h
quasi_or_not word.Begin c h = apart_by word.Begin (Some IsBegin) c (λ e. absurd cc) (λ e. absurd cc) h
quasi_or_not word.Define c h = apart_by word.Define (Some IsDefine) c (λ e. absurd cc) (λ e. absurd cc) h
quasi_or_not word.DefineValues c h = apart_by word.DefineValues (Some IsDefineValues) c (λ e. absurd cc) (λ e. absurd cc) h
quasi_or_not word.DefineRecordType c h = apart_by word.DefineRecordType (Some IsDefineRecordType) c (λ e. absurd cc) (λ e. absurd cc) h
quasi_or_not word.DefineSyntax c h = apart_by word.DefineSyntax (Some IsDefineSyntax) c (λ e. absurd cc) (λ e. absurd cc) h
quasi_or_not word.LetSyntax c h = apart_by word.LetSyntax (Some IsLetSyntax) c (λ e. absurd cc) (λ e. absurd cc) h
quasi_or_not word.LetrecSyntax c h = apart_by word.LetrecSyntax (Some IsLetrecSyntax) c (λ e. absurd cc) (λ e. absurd cc) h
quasi_or_not word.CondExpand c h = apart_by word.CondExpand (Some IsCondExpand) c (λ e. absurd cc) (λ e. absurd cc) h
quasi_or_not word.SyntaxError c h = apart_by word.SyntaxError (Some IsSyntaxError) c (λ e. absurd cc) (λ e. absurd cc) h
quasi_or_not word.Include c h = apart_by word.Include (Some IsInclude) c (λ e. absurd cc) (λ e. absurd cc) h
quasi_or_not word.IncludeCi c h = apart_by word.IncludeCi (Some IsInclude) c (λ e. absurd cc) (λ e. absurd cc) h

-- some marks are told
pub marks_there : (work : Work) (k : code_keyword.CoreKeyword) (c : CoreKeyword) (marks : List QuasiMark) (m : Identifier → Option Mark) → keyword_as k ≡ Some c → (k ≡ word.Quasiquote → AreMarks work marks m) → ((k ≡ word.Quasiquote → ⊥) → marks ≡ []) →
    (n : Identifier → Option Mark) × AreMarks work marks n
marks_there work k c marks m is are none =
    elim (quasi_or_not k c is) [
      | inl quasi ↦ (m, are quasi)
      | inr other ↦ (λ i. None, subst (λ (ms : List QuasiMark). AreMarks work ms (λ i. None)) (sym (none other.0)) (no_marks work))
    ]

-- the form was parsed by its marks, so it was as the definition reads it
pub parsed_as : (work : Work) (k : code_keyword.CoreKeyword) (c : CoreKeyword) (marks : List QuasiMark) (mark : Identifier → Option Mark) (head : Tree Identifier) (ts : Trees Identifier) (tail : Tail Identifier) (o : Option Occ) (result : Result code_shape.CoreShape CoreFault) →
    keyword_as k ≡ Some c → (k ≡ word.Quasiquote → AreMarks work marks (mark_within (list (tree head ts) tail o) mark)) → ((k ≡ word.Quasiquote → ⊥) → marks ≡ []) →
    ((m : Identifier → Option Mark) → AreMarks work marks m → FormEnds work (ShapeFor work) (shape_in c true m (list (tree head ts) tail o)) result) → FormEnds work (ShapeFor work) (shape_of c true mark ts tail) result
parsed_as work k c marks mark head ts tail o result is are none parsed =
    let form = list (tree head ts) tail o in
    elim (quasi_or_not k c is) [
      | inl quasi ↦ subst (λ (r : Result Shape (Fault Identifier)). FormEnds work (ShapeFor work) r result) (marks_within c true mark form) (parsed (mark_within form mark) (are quasi))
      | inr other ↦
          subst (λ (r : Result Shape (Fault Identifier)). FormEnds work (ShapeFor work) r result) (mark_free c other.1 (λ i. None) mark ts tail)
          (parsed (λ i. None) (subst (λ (ms : List QuasiMark). AreMarks work ms (λ i. None)) (sym (none other.0)) (no_marks work)))
    ]

-- ---- how the form goes on

fault_same : (f : Fault Identifier) → fault_map (λ i. i) f ≡ f
fault_same BadRules = refl
fault_same TwoEllipses = refl
fault_same (DuplicateVariable n) = refl
fault_same (EllipsisDepth n) = refl
fault_same IdleEllipsis = refl
fault_same (NoRule n) = refl
fault_same EllipsisLength = refl
fault_same BadForm = refl
fault_same (DuplicateBinder n) = refl
fault_same BadPlace = refl
fault_same BadRecord = refl
fault_same BadQuasi = refl
fault_same (KeywordRedefined n) = refl
fault_same (Duplicate n) = refl
fault_same (KeywordAsValue n) = refl
fault_same UseBudget = refl
fault_same NodeBudget = refl
fault_same DepthBudget = refl
fault_same (SyntaxError text) = refl
fault_same IncludeRefused = refl
fault_same OutOfTurns = refl

-- a fault as the code tells it
abbrev pub RefusedBy : Work → Noting → Here → Fault Identifier → ExpandFault → Type 0
RefusedBy work s here b (fault.At e) = IsFault work.symbols e (record { fault = b; here = here })
RefusedBy work s here b fault.Full = ⊥
RefusedBy work s here b fault.Memory = ⊥

module _ (known : Known) (depth : ℕ) (here : Here) (fs : Frames) (s : Noting) (c : CoreKeyword) (ts : Trees Identifier) (tail : Tail Identifier) where
  abbrev pub shape_here : Result Shape (Fault Identifier)
  shape_here = shape_of c true (λ i. mark_of (head_of (noting known) fs s i)) ts tail

  abbrev asked : Noting
  asked = form_asked known fs c ts tail s

  abbrev then_step : Expanding → Result Shape (Fault Identifier) → Result Core Broken × Noting
  then_step f r = given (λ i. i) here r asked >>= core_step f (noting known) depth here fs c

  pub shaped_goes : (f : Expanding) (m : Shape) → shape_here ≡ Ok m → core_form f (noting known) depth here fs c ts tail s ≡ core_step f (noting known) depth here fs c m asked
  shaped_goes f m h = core_form_is known f depth here fs s c ts tail ∙ ap (then_step f) h

  pub shaped_fails : (f : Expanding) (e : Fault Identifier) → shape_here ≡ Err e → core_form f (noting known) depth here fs c ts tail s ≡ (Err (record { fault = e; here = here }), asked)
  shaped_fails f e h =
      let at : Fault Identifier → Result Core Broken × Noting = λ g. (Err (record { fault = g; here = here }), asked) in
      core_form_is known f depth here fs s c ts tail ∙ (ap (then_step f) h ∙ ap at (fault_same e))

  -- ---- what was read

  module _ (work : Work) (region : Region) (u : UnitScope) (ls : List Frames) (stands : Stands work u ls asked) where
    abbrev forms : Expanding → Result Core Broken × Noting
    forms f = core_form f (noting known) depth here fs c ts tail s

    pub misread_reads : (x : ExpandFault) (r : Result code_ready.Ready ExpandFault) → IsErrAnd r (λ g. g ≡ x) → Tells work.symbols here x shape_here → Reads known depth here work region u u ls fs r forms
    misread_reads x (Ok y) is h = absurd is
    misread_reads x (Err g) is h = subst (λ (e : ExpandFault). Reads known depth here work region u u ls fs (Err e) forms) (sym is) (go x h)
      where
        go : (e : ExpandFault) → Tells work.symbols here e shape_here → Reads known depth here work region u u ls fs (Err e) forms
        go (fault.At e) h = (record { fault = h.0; here = here }, asked, stays_itself work region u ls asked stands, h.2, λ f. shaped_fails f h.0 h.1)
        go fault.Full h = absurd h
        go fault.Memory h = leaves_itself work region u stands.form.few_nodes

    pub shape_reads : (k : code_keyword.CoreKeyword) (shape : code_shape.CoreShape) (m : Shape) → keyword_as k ≡ Some c → shape_here ≡ Ok m → ShapeFor work shape m → ShapeNamed work region shape → trees_size ts ≤ 4194304 → IsLeft m →
        Reads known depth here work region u u ls fs (Ok (ready.Shape k shape)) forms
    shape_reads k shape m is read for named few left = (
      asked,
      stays_itself work region u ls asked stands,
      (c, m, is, for, named, (shape_fits c true (λ i. mark_of (head_of (noting known) fs s i)) ts tail m few read, left), λ f. shaped_goes f m read),
    )

    -- a fault at once
    pub refused_reads : (m : Shape) (b : Fault Identifier) (e : ExpandFault) → shape_here ≡ Ok m → ((f : Expanding) → core_step f (noting known) depth here fs c m asked ≡ (Err (record { fault = b; here = here }), asked)) → RefusedBy work s here b e →
        Reads known depth here work region u u ls fs (Err e) forms
    refused_reads m b (fault.At e) read refused told = (record { fault = b; here = here }, asked, stays_itself work region u ls asked stands, told, λ f. shaped_goes f m read ∙ refused f)
    refused_reads m b fault.Full read refused told = absurd told
    refused_reads m b fault.Memory read refused told = absurd told

-- what is read once the form's questions were noted
pub noted_reads : (known : Known) (depth : ℕ) (here : Here) (work : Work) (region : Region) (u w v : UnitScope) (ls : List Frames) (fs : Frames) (s : Noting) (c : CoreKeyword) (ts : Trees Identifier) (tail : Tail Identifier) (r : Result code_ready.Ready ExpandFault) → Stands work u ls s → w ≡ with_notes u w.form.trace.notes →
    Stands work w ls (form_asked known fs c ts tail s) → Reads known depth here work region w v ls fs r (λ f. core_form f (noting known) depth here fs c ts tail s) → Reads known depth here work region u v ls fs r (λ f. core_form f (noting known) depth here fs c ts tail s)
noted_reads known depth here work region u w v ls fs s c ts tail r e same stands h =
    let t = form_asked known fs c ts tail s in
    let forms : Expanding → Result Core Broken × Noting = λ f. core_form f (noting known) depth here fs c ts tail s in
    reads_behind known depth here work region u w v ls fs t r forms forms (noted_stays work region u w ls s t e same stands) (λ f. refl) h

-- a step that was made of what was read
pub here_reads : (known : Known) (depth : ℕ) (here : Option Occ) (work : Work) (region : Region) (u v : UnitScope) (ls : List Frames) (fs : Frames) (step : Expanding → Result Core Broken × Noting) (p : Result Core Broken × Noting) (x : code_core.Core) →
    ((f : Expanding) → step f ≡ p) → EndsHere (CoreStands work u.unit u.form.number) work work region u v ls (Ok x) p → Reads known depth here work region u v ls fs (Ok (ready.Core x)) step
here_reads known depth here work region u v ls fs step p x same h = (
  p.1,
  h.1,
  (
    h.0,
    subst (λ (n : ℕ). CoreStands work n v.form.number x h.0) (sym h.1.same.unit) (subst (λ (n : ℕ). CoreStands work u.unit n x h.0) (sym h.1.same.number) h.3),
    λ f. same f ∙ (λ j. (h.2 j, p.1)),
  ),
)

pub here_unread : {X : Type 0} (P : X → Core → Type 0) (known : Known) (depth : ℕ) (here : Option Occ) (work : Work) (region : Region) (u v : UnitScope) (ls : List Frames) (fs : Frames) (step : Expanding → Result Core Broken × Noting) (p : Result Core Broken × Noting) (x : ExpandFault) (r : Result code_ready.Ready ExpandFault) →
    IsErrAnd r (λ g. g ≡ x) → ((f : Expanding) → step f ≡ p) → EndsHere P work work region u v ls (Err x) p → Reads known depth here work region u v ls fs r step
here_unread P known depth here work region u v ls fs step p x (Ok y) is same h = absurd is
here_unread {X} P known depth here work region u v ls fs step p x (Err g) is same h = subst (λ (e : ExpandFault). Reads known depth here work region u v ls fs (Err e) step) (sym is) (go x h)
  where
    go : (e : ExpandFault) → EndsHere P work work region u v ls (Err e) p → Reads known depth here work region u v ls fs (Err e) step
    go (fault.At e) h = (h.1.0, p.1, h.0, h.1.2, λ f. same f ∙ (λ j. (h.1.1 j, p.1)))
    go fault.Full h = h
    go fault.Memory h = h

-- ---- which shape the code has

pub quoted_is : (work : Work) (x : code_shape.CoreShape) (n : number.Tree) (m : Shape) → x ≡ shapes.Quote n → ShapeFor work x m → (t : Tree Identifier) × (m ≡ Quoted t) × StandsFor work n t
quoted_is work x n (Quoted t) e h = (t, refl, let same : h.0 ≡ n = cc in subst (λ (k : number.Tree). StandsFor work k t) same h.2)
quoted_is work x n (Quasi t p) e h = let at = h.1.1.1 in absurd cc
quoted_is work x n (Procedure d) e h = let at = h.1 in absurd cc
quoted_is work x n (Procedures cs) e h = let at = h.1 in absurd cc
quoted_is work x n (Conditional us) e h = let at = h.1 in absurd cc
quoted_is work x n (Assignment p) e h = let at = h.1.1 in absurd cc
quoted_is work x n (Sequence us) e h = let at = h.1 in absurd cc
quoted_is work x n (Definition (Variable d t)) e h = let at = h.1.1 in absurd cc
quoted_is work x n (Definition (define_procedure d f)) e h = let at = h.1.1 in absurd cc
quoted_is work x n (Several p) e h = let at = h.1.1 in absurd cc
quoted_is work x n (RecordType r) e h = let at = h.1.1.1.1.1 in absurd cc
quoted_is work x n (Syntax p) e h = let at = h.1.1 in absurd cc
quoted_is work x n (Local l) e h = let at = h.1.1 in absurd cc
quoted_is work x n (Choices cs) e h = let at = h.1 in absurd cc
quoted_is work x n (ErrorText text) e h = let at = h.1 in absurd cc
quoted_is work x n Inclusion e h = let at = h in absurd cc

pub text_is : (work : Work) (x : code_shape.CoreShape) (n : ℕ) (m : Shape) → x ≡ shapes.SyntaxError n → ShapeFor work x m → (text : List ℕ) × (m ≡ ErrorText text) × (slice_get work.symbols.symbols n ≡ Some text)
text_is work x n (Quoted t) e h = let at = h.1 in absurd cc
text_is work x n (Quasi t p) e h = let at = h.1.1.1 in absurd cc
text_is work x n (Procedure d) e h = let at = h.1 in absurd cc
text_is work x n (Procedures cs) e h = let at = h.1 in absurd cc
text_is work x n (Conditional us) e h = let at = h.1 in absurd cc
text_is work x n (Assignment p) e h = let at = h.1.1 in absurd cc
text_is work x n (Sequence us) e h = let at = h.1 in absurd cc
text_is work x n (Definition (Variable d t)) e h = let at = h.1.1 in absurd cc
text_is work x n (Definition (define_procedure d f)) e h = let at = h.1.1 in absurd cc
text_is work x n (Several p) e h = let at = h.1.1 in absurd cc
text_is work x n (RecordType r) e h = let at = h.1.1.1.1.1 in absurd cc
text_is work x n (Syntax p) e h = let at = h.1.1 in absurd cc
text_is work x n (Local l) e h = let at = h.1.1 in absurd cc
text_is work x n (Choices cs) e h = let at = h.1 in absurd cc
text_is work x n (ErrorText text) e h = (text, refl, let same : h.0 ≡ n = cc in subst (λ (k : ℕ). slice_get work.symbols.symbols k ≡ Some text) same h.2)
text_is work x n Inclusion e h = let at = h in absurd cc

pub inclusion_is : (work : Work) (x : code_shape.CoreShape) (m : Shape) → x ≡ shapes.Include → ShapeFor work x m → m ≡ Inclusion
inclusion_is work x (Quoted t) e h = let at = h.1 in absurd cc
inclusion_is work x (Quasi t p) e h = let at = h.1.1.1 in absurd cc
inclusion_is work x (Procedure d) e h = let at = h.1 in absurd cc
inclusion_is work x (Procedures cs) e h = let at = h.1 in absurd cc
inclusion_is work x (Conditional us) e h = let at = h.1 in absurd cc
inclusion_is work x (Assignment p) e h = let at = h.1.1 in absurd cc
inclusion_is work x (Sequence us) e h = let at = h.1 in absurd cc
inclusion_is work x (Definition (Variable d t)) e h = let at = h.1.1 in absurd cc
inclusion_is work x (Definition (define_procedure d f)) e h = let at = h.1.1 in absurd cc
inclusion_is work x (Several p) e h = let at = h.1.1 in absurd cc
inclusion_is work x (RecordType r) e h = let at = h.1.1.1.1.1 in absurd cc
inclusion_is work x (Syntax p) e h = let at = h.1.1 in absurd cc
inclusion_is work x (Local l) e h = let at = h.1.1 in absurd cc
inclusion_is work x (Choices cs) e h = let at = h.1 in absurd cc
inclusion_is work x (ErrorText text) e h = let at = h.1 in absurd cc
inclusion_is work x Inclusion e h = refl

-- one that is none of these is left to be done
pub shape_left : (work : Work) (x : code_shape.CoreShape) (m : Shape) → ShapeFor work x m → ((n : number.Tree) → x ≡ shapes.Quote n → ⊥) → ((n : ℕ) → x ≡ shapes.SyntaxError n → ⊥) → (x ≡ shapes.Include → ⊥) → IsLeft m
shape_left work x (Quoted t) h quoted text inclusion = quoted h.0 h.1
shape_left work x (Quasi t p) h quoted text inclusion = tt
shape_left work x (Procedure d) h quoted text inclusion = tt
shape_left work x (Procedures cs) h quoted text inclusion = tt
shape_left work x (Conditional us) h quoted text inclusion = tt
shape_left work x (Assignment p) h quoted text inclusion = tt
shape_left work x (Sequence us) h quoted text inclusion = tt
shape_left work x (Definition d) h quoted text inclusion = tt
shape_left work x (Several p) h quoted text inclusion = tt
shape_left work x (RecordType r) h quoted text inclusion = tt
shape_left work x (Syntax p) h quoted text inclusion = tt
shape_left work x (Local l) h quoted text inclusion = tt
shape_left work x (Choices cs) h quoted text inclusion = tt
shape_left work x (ErrorText text) h quoted error inclusion = error h.0 h.1
shape_left work x Inclusion h quoted text inclusion = inclusion h
