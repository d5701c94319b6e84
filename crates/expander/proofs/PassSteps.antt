-- A form that is gone through: a core form that splices or defines is read as its shape and then done as the shape is, and any other
-- is set aside.
use Rattle.std.proofs.Common.{◌≡◌, true, false, Option, None, Result, Ok, Err, refl, ap, ◌∙◌}
use Rattle.scheme_model.specs.Trees.{Tree, name, atom, list, vector, Trees, no_trees, tree, Tail}
use Rattle.scheme_model.specs.ExpansionFaults.{Fault, fault_map, BadRules, TwoEllipses, DuplicateVariable, EllipsisDepth, IdleEllipsis, NoRule, EllipsisLength, BadForm, DuplicateBinder, BadPlace, BadRecord, BadQuasi, KeywordRedefined, Duplicate, KeywordAsValue, UseBudget, NodeBudget, DepthBudget, SyntaxError, IncludeRefused, OutOfTurns, ◌>>◌}
use Rattle.scheme_model.specs.Keywords.{CoreKeyword, IsQuote, IsQuasiquote, IsLambda, IsCaseLambda, IsIf, IsSet, IsBegin, IsDefine, IsDefineValues, IsDefineRecordType, IsDefineSyntax, IsLetSyntax, IsLetrecSyntax, IsCondExpand, IsSyntaxError, IsInclude}
use Rattle.scheme_model.specs.Quasiquote.{Mark}
use Rattle.scheme_model.specs.Shapes.{proper_of, some_of, definition_of, values_of, record_of, syntax_of}
use Rattle.scheme_model.specs.Requirements.{Known}
use Rattle.scheme_model.specs.Ident.{Ident as Identifier, same_ident}
use Rattle.scheme_model.specs.Cores.{Target}
use Rattle.scheme_model.specs.Order.{Here, Form, Expression, Pending, Pass, Going, or_none, put, read_then, splice, run_core, run_form}
use Rattle.scheme_model.specs.ScopedExpansion.{Frames, FramedIdent}
use Rattle.core_forms.specs.Forms.{Shape, Sequence, Definition, Several, RecordType, Syntax, Choices, choices_in, shape_of}
use Rattle.syntax_tree.specs.declared.trees.Work.{Work}
use Rattle.core_forms.specs.Parts.{IsNameIfAny}
use Rattle.feature_requirements.specs.Judged.{chosen_among}
use Rattle.expander.specs.Passed.{pass_step}
use Rattle.form_parts.specs.FormsSeen.{takes_effect, head_name_of}
use Rattle.feature_requirements.proofs.ChoiceLaws.{chosen_is}
use Rattle.noted_steps.specs.Asked.{form_asked}
use Rattle.noted_steps.specs.Noting.{Noting, noting}
use Rattle.noted_steps.specs.Stepped.{met}

-- ---- faults of identifiers as they came about

pub fault_same : (e : Fault Identifier) → fault_map (λ (i : Identifier). i) e ≡ e
fault_same BadRules = refl
fault_same TwoEllipses = refl
fault_same (DuplicateVariable n) = refl
fault_same (EllipsisDepth n) = refl
fault_same IdleEllipsis = refl
fault_same (NoRule n) = refl
fault_same EllipsisLength = refl
fault_same BadForm = refl
fault_same (DuplicateBinder n) = refl
fault_same BadPlace = refl
fault_same BadRecord = refl
fault_same BadQuasi = refl
fault_same (KeywordRedefined n) = refl
fault_same (Duplicate n) = refl
fault_same (KeywordAsValue n) = refl
fault_same UseBudget = refl
fault_same NodeBudget = refl
fault_same DepthBudget = refl
fault_same (SyntaxError text) = refl
fault_same IncludeRefused = refl
fault_same OutOfTurns = refl

-- ---- core forms

module _ (known : Known) (go : Going Identifier FramedIdent Noting) (here : Here) (fs : Frames) (form : Form Identifier) (p : Pending Identifier FramedIdent) where
  abbrev step : Shape → Noting → Pass Identifier FramedIdent × Noting
  step m s = pass_step (noting known) go here fs form p m s

  -- what is read of a kind of shape goes on as that kind does
  read_as : {B : Type 0} (r : Result B (Fault Identifier)) (make : B → Shape) (s : Noting) →
      read_then (noting known) here p r (λ b. step (make b)) s ≡ read_then (noting known) here p (r >> λ b. Ok (make b)) step s
  read_as (Ok b) make s = refl
  read_as (Err e) make s = refl

  -- two readings, one after another
  read_twice : {B C : Type 0} (r : Result B (Fault Identifier)) (f : B → Result C (Fault Identifier)) (next : C → Noting → Pass Identifier FramedIdent × Noting) (s : Noting) →
      read_then (noting known) here p (r >> f) next s ≡ read_then (noting known) here p r (λ b. read_then (noting known) here p (f b) next) s
  read_twice (Ok b) f next s = refl
  read_twice (Err e) f next s = refl

  abbrev chosen : Noting → Result (Option (Trees Identifier)) (Fault Identifier) → Pass Identifier FramedIdent × Noting
  chosen s r = read_then (noting known) here p r (λ c. splice (noting known) go here p (or_none c)) s

  -- one that takes effect at once
  pub core_is : (c : CoreKeyword) (k : Target) (ts : Trees Identifier) (tail : Tail Identifier) (mark : Identifier → Option Mark) (s : Noting) → takes_effect c ≡ true →
      run_core (noting known) go here fs c k form ts tail p s ≡ read_then (noting known) here p (shape_of c false mark ts tail) (λ m. pass_step (noting known) go here fs form p m) (form_asked known fs c ts tail (met k s))
  core_is IsQuote k ts tail mark s h = absurd cc
  core_is IsQuasiquote k ts tail mark s h = absurd cc
  core_is IsLambda k ts tail mark s h = absurd cc
  core_is IsCaseLambda k ts tail mark s h = absurd cc
  core_is IsIf k ts tail mark s h = absurd cc
  core_is IsSet k ts tail mark s h = absurd cc
  core_is IsBegin k ts tail mark s h = read_as (proper_of ts tail) Sequence (met k s)
  core_is IsDefine k ts tail mark s h = read_as (definition_of same_ident ts tail) Definition (met k s)
  core_is IsDefineValues k ts tail mark s h = read_as (values_of same_ident ts tail) Several (met k s)
  core_is IsDefineRecordType k ts tail mark s h = read_as (record_of same_ident ts tail) RecordType (met k s)
  core_is IsDefineSyntax k ts tail mark s h = read_as (syntax_of ts tail) Syntax (met k s)
  core_is IsLetSyntax k ts tail mark s h = absurd cc
  core_is IsLetrecSyntax k ts tail mark s h = absurd cc
  core_is IsCondExpand k ts tail mark s h =
      let t = form_asked known fs IsCondExpand ts tail (met k s) in
      ap (chosen t) (chosen_is known ts tail)
      ∙ (read_twice (some_of ts tail >> choices_in) (chosen_among known) (λ c. splice (noting known) go here p (or_none c)) t
      ∙ read_as (some_of ts tail >> choices_in) Choices t)
  core_is IsSyntaxError k ts tail mark s h = absurd cc
  core_is IsInclude k ts tail mark s h = absurd cc

  -- one that is an expression
  pub set_aside : (c : CoreKeyword) (k : Target) (ts : Trees Identifier) (tail : Tail Identifier) (s : Noting) → takes_effect c ≡ false → run_core (noting known) go here fs c k form ts tail p s ≡ go (put (Expression form) p) s
  set_aside IsQuote k ts tail s h = refl
  set_aside IsQuasiquote k ts tail s h = refl
  set_aside IsLambda k ts tail s h = refl
  set_aside IsCaseLambda k ts tail s h = refl
  set_aside IsIf k ts tail s h = refl
  set_aside IsSet k ts tail s h = refl
  set_aside IsBegin k ts tail s h = absurd cc
  set_aside IsDefine k ts tail s h = absurd cc
  set_aside IsDefineValues k ts tail s h = absurd cc
  set_aside IsDefineRecordType k ts tail s h = absurd cc
  set_aside IsDefineSyntax k ts tail s h = absurd cc
  set_aside IsLetSyntax k ts tail s h = refl
  set_aside IsLetrecSyntax k ts tail s h = refl
  set_aside IsCondExpand k ts tail s h = absurd cc
  set_aside IsSyntaxError k ts tail s h = refl
  set_aside IsInclude k ts tail s h = refl

  -- ---- forms by their heads

  -- a form without a name at its head
  pub no_head : (work : Work) (t : Tree Identifier) (s : Noting) → IsNameIfAny work None (head_name_of t) → run_form (noting known) go fs here form t p s ≡ go (put (Expression form) p) s
  no_head work (name i o) s h = refl
  no_head work (atom a o) s h = refl
  no_head work (vector ts o) s h = refl
  no_head work (list no_trees tail o) s h = refl
  no_head work (list (tree (name i q) ts) tail o) s h = absurd h
  no_head work (list (tree (atom a q) ts) tail o) s h = refl
  no_head work (list (tree (list us end q) ts) tail o) s h = refl
  no_head work (list (tree (vector us q) ts) tail o) s h = refl
