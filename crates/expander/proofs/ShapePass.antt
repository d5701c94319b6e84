-- A core form that splices or defines, by the shape that the code has of it.
use Rattle.std.proofs.Common.{◌≡◌, ℕ, ◌+◌, ◌<◌, ◌≤◌, List, length, Option, Result, IfSome, sym, subst, arith}
use Rattle.std.specs.Prelude.{Vec, String}
use Rattle.std.specs.BTreeSet.{BTreeSet}
use Rattle.std.specs.declared.alloc.Global.{Global}
use Rattle.std.specs.List.{AllByRecursion}
use Rattle.scheme_model.specs.Trees.{Tree, Trees}
use Rattle.scheme_model.specs.Measures.{trees_size}
use Rattle.scheme_model.specs.ExpansionFaults.{Named}
use Rattle.scheme_model.specs.Ident.{Ident as Identifier}
use Rattle.scheme_model.specs.Requirements.{Known}
use Rattle.scheme_model.specs.Shapes.{Formals, Clause, RecordShape, Variable, Procedure as define_procedure}
use Rattle.scheme_model.specs.Order.{Here, Form, Pending, Pass, Going, or_none, read_then, splice, record_names, run_define, run_values, run_record, run_syntax}
use Rattle.scheme_model.specs.ScopedExpansion.{Frames, FramedIdent}
use Rattle.syntax_tree.specs.Looks.{PartsStand, AllNamed}
use Rattle.syntax_tree.specs.Works.{StandsFor, IsStanding}
use Rattle.syntax_tree.specs.declared.trees.Work.{Work}
use Rattle.syntax_tree.specs.declared.trees.nodes.Tree as number
use Rattle.syntax_tree.specs.declared.trees.table.Region.{Region}
use Rattle.core_forms.specs.Ends.{IsRecord, ShapeFor}
use Rattle.core_forms.specs.Forms.{Shape}
use Rattle.core_forms.specs.Named.{ChoiceNamed, ShapeNamed, TreesNamed}
use Rattle.core_forms.specs.Parts.{AllMatch, IsName, IsField, IsFormals, IsChoice}
use Rattle.core_forms.specs.declared.shape.Choice.{Choice}
use Rattle.core_forms.specs.declared.shape.ClauseShape.{ClauseShape}
use Rattle.core_forms.specs.declared.shape.CoreShape as code
use Rattle.core_forms.specs.declared.shape.CoreShape.TheVariants as shapes
use Rattle.core_forms.specs.declared.shape.FieldShape.{FieldShape}
use Rattle.core_forms.specs.declared.shape.Formals as code_formals
use Rattle.core_forms.specs.declared.shape.NamePart.{NamePart}
use Rattle.feature_requirements.specs.Judged.{AreChoosable, Chooses, Knows, chosen_among}
use Rattle.unit_scopes.specs.Defining.{HasNumber}
use Rattle.unit_scopes.specs.Kept.{ClauseFor}
use Rattle.unit_scopes.specs.Outcomes.{WorksOn}
use Rattle.expander.specs.Passed.{ShapeFits, choices_size, pass_step, shape_weight}
use Rattle.feature_requirements.specs.declared.fault.ExpandFault.{ExpandFault}
use Rattle.expander.proofs.DefinitionSteps.{matched_length}
use Rattle.expander.proofs.ShapeKinds.{as_sequence, as_choices, as_variable, as_procedure, as_values, as_syntax, as_record, records_alike}
use Rattle.noted_steps.specs.Noting.{Noting, noting}

-- G says how the code's step ends; what is to be shown is said of the definition's step by the shape
module _ (known : Known) (work : Work) (region : Region) (s : Noting) (fs : Frames) (here : Here) (form : Form Identifier) (p : Pending Identifier FramedIdent) (given : ℕ) (G : (Going Identifier FramedIdent Noting → Pass Identifier FramedIdent × Noting) → Type 0)
    (x : code.CoreShape) (m : Shape) (stands : ShapeFor work x m) (named : ShapeNamed work region x) (fits : ShapeFits m) (less : shape_weight m < given) where
  abbrev Goal : Shape → Type 0
  Goal q = ShapeFits q → shape_weight q < given → G (λ go. pass_step (noting known) go here fs form p q s)

  at_shape : (y : code.CoreShape) → x ≡ y → ShapeFor work y m
  at_shape y is = subst (λ (z : code.CoreShape). ShapeFor work z m) is stands

  named_at : (y : code.CoreShape) → x ≡ y → ShapeNamed work region y
  named_at y is = subst (λ (z : code.CoreShape). ShapeNamed work region z) is named

  pub begin_goes : (ns : Vec number.Tree Global) (xs : List number.Tree) → x ≡ shapes.Begin ns → xs ≡ ns.items →
      ((ts : Trees Identifier) → PartsStand work xs ts → AllNamed work region xs → trees_size ts < given → G (λ go. splice (noting known) go here p ts s)) → G (λ go. pass_step (noting known) go here fs form p m s)
  begin_goes ns xs is items next =
      as_sequence work Goal ns m (at_shape (shapes.Begin ns) is)
      (λ ts are fit few. next ts (subst (λ (l : List number.Tree). PartsStand work l ts) (sym items) are) (subst (λ (l : List number.Tree). AllNamed work region l) (sym items) (named_at (shapes.Begin ns) is)) few) fits less

  pub choices_goes : (cs : Vec Choice Global) (ys : List Choice) → x ≡ shapes.CondExpand cs → ys ≡ cs.items →
      ((ps : List (Tree Identifier × Trees Identifier)) → AllMatch (IsChoice work) ys ps → AllByRecursion (ChoiceNamed work region) ys → choices_size ps < given → G (λ go. read_then (noting known) here p (chosen_among known ps) (λ c. splice (noting known) go here p (or_none c)) s)) →
      G (λ go. pass_step (noting known) go here fs form p m s)
  choices_goes cs ys is items next =
      as_choices work Goal cs m (at_shape (shapes.CondExpand cs) is)
      (λ ps are fit few. next ps (subst (λ (l : List Choice). AllMatch (IsChoice work) l ps) (sym items) are) (subst (λ (l : List Choice). AllByRecursion (ChoiceNamed work region) l) (sym items) (named_at (shapes.CondExpand cs) is)) few) fits less

  pub variable_goes : (n : NamePart) (v : number.Tree) → x ≡ shapes.Define n v → ((i : Named Identifier) (t : Tree Identifier) → IsName work n i → WorksOn work region v t → 1 < given → G (λ go. run_define (noting known) go here fs p (Variable i t) s)) →
      G (λ go. pass_step (noting known) go here fs form p m s)
  variable_goes n v is next = as_variable work Goal n v m (at_shape (shapes.Define n v) is) (λ i t name value fit few. next i t name (value, named_at (shapes.Define n v) is) few) fits less

  pub procedure_goes : (n : NamePart) (c : ClauseShape) → x ≡ shapes.Procedure n c → ((i : Named Identifier) (d : Clause Identifier) → IsName work n i → ClauseFor work region c d → 1 < given → G (λ go. run_define (noting known) go here fs p (define_procedure i d) s)) →
      G (λ go. pass_step (noting known) go here fs form p m s)
  procedure_goes n c is next = as_procedure work Goal n c m (at_shape (shapes.Procedure n c) is) (λ i d name clause fit few. next i d name (clause, named_at (shapes.Procedure n c) is, fit) few) fits less

  pub values_goes : (a : code_formals.Formals) (v : number.Tree) → x ≡ shapes.Values a v → ((d : Formals Identifier) (t : Tree Identifier) → IsFormals work a d → WorksOn work region v t → length d.names < given → G (λ go. run_values (noting known) go here fs p (d, t) s)) →
      G (λ go. pass_step (noting known) go here fs form p m s)
  values_goes a v is next = as_values work Goal a v m (at_shape (shapes.Values a v) is) (λ d t formals value fit few. next d t formals (value, named_at (shapes.Values a v) is) few) fits less

  pub syntax_goes : (n : NamePart) (v : number.Tree) → x ≡ shapes.DefineSyntax n v → ((i : Named Identifier) (t : Tree Identifier) → IsName work n i → StandsFor work v t → 1 < given → G (λ go. run_syntax (noting known) go here fs p (i, t) s)) →
      G (λ go. pass_step (noting known) go here fs form p m s)
  syntax_goes n v is next = as_syntax work Goal n v m (at_shape (shapes.DefineSyntax n v) is) (λ i t name value fit few. next i t name value few) fits less

  pub record_goes : (n c : NamePart) (us : Vec NamePart Global) (q : NamePart) (ys : Vec FieldShape Global) → x ≡ shapes.RecordType n c us q ys →
      ((r : RecordShape Identifier) → IsRecord work n c us q ys r → length r.fields + length (record_names r) < given → G (λ go. run_record (noting known) go here fs p r s)) → G (λ go. pass_step (noting known) go here fs form p m s)
  record_goes n c us q ys is next = as_record work Goal n c us q ys m (at_shape (shapes.RecordType n c us q ys) is) (λ r stand fit few. next r stand few) fits less

-- ---- what definitions demand, by the shape

module _ (work : Work) (x : code.CoreShape) (m : Shape) (stands : ShapeFor work x m) where
  stand_at : (y : code.CoreShape) → x ≡ y → ShapeFor work y m
  stand_at y is = subst (λ (z : code.CoreShape). ShapeFor work z m) is stands

  pub variable_demands : (n : NamePart) (v : number.Tree) → x ≡ shapes.Define n v → HasNumber work n × (1 ≤ shape_weight m)
  variable_demands n v is = as_variable work (λ q. HasNumber work n × (1 ≤ shape_weight q)) n v m (stand_at (shapes.Define n v) is) (λ i t name value. ((i, name), omega arith))

  pub procedure_demands : (n : NamePart) (c : ClauseShape) → x ≡ shapes.Procedure n c → HasNumber work n × (1 ≤ shape_weight m)
  procedure_demands n c is = as_procedure work (λ q. HasNumber work n × (1 ≤ shape_weight q)) n c m (stand_at (shapes.Procedure n c) is) (λ i d name clause. ((i, name), omega arith))

  pub syntax_demands : (n : NamePart) (v : number.Tree) → x ≡ shapes.DefineSyntax n v → HasNumber work n × IsStanding work v × (1 ≤ shape_weight m)
  syntax_demands n v is = as_syntax work (λ q. HasNumber work n × IsStanding work v × (1 ≤ shape_weight q)) n v m (stand_at (shapes.DefineSyntax n v) is) (λ i t name value. ((i, name), (t, value), omega arith))

  pub values_demands : (a : code_formals.Formals) (v : number.Tree) → x ≡ shapes.Values a v → ((d : Formals Identifier) × IsFormals work a d) × (length a.names.items ≤ shape_weight m)
  values_demands a v is =
      as_values work (λ q. ((d : Formals Identifier) × IsFormals work a d) × (length a.names.items ≤ shape_weight q)) a v m (stand_at (shapes.Values a v) is)
      (λ d t formals value. let same = matched_length (IsName work) a.names.items d.names formals.names in ((d, formals), omega (arith, same)))

  pub choices_demands : (cs : Vec Choice Global) → x ≡ shapes.CondExpand cs → AreChoosable work cs.items
  choices_demands cs is = as_choices work (λ q. AreChoosable work cs.items) cs m (stand_at (shapes.CondExpand cs) is) (λ ps are. (ps, are))

  pub record_demands : (n c : NamePart) (us : Vec NamePart Global) (p : NamePart) (ys : Vec FieldShape Global) → x ≡ shapes.RecordType n c us p ys →
      ((r : RecordShape Identifier) × IsRecord work n c us p ys r) × ((r : RecordShape Identifier) → IsRecord work n c us p ys r → length r.fields + length (record_names r) ≤ shape_weight m) × (length ys.items ≤ shape_weight m)
  record_demands n c us p ys is =
      as_record work (λ q. ((r : RecordShape Identifier) × IsRecord work n c us p ys r) × ((r : RecordShape Identifier) → IsRecord work n c us p ys r → length r.fields + length (record_names r) ≤ shape_weight q) × (length ys.items ≤ shape_weight q)) n c us p ys m (stand_at (shapes.RecordType n c us p ys) is)
      (λ r stand. let count = matched_length (IsField work) ys.items r.fields stand.fields in ((r, stand), λ q other. let same = records_alike work n c us p ys q r other stand in omega (arith, same), omega (arith, count)))

-- ---- the chosen clause, by what it is judged by

module _ (work w : Work) (libraries l : BTreeSet (String Global)) (cs : List Choice) (here : Here) (same : w ≡ work) (known_same : l ≡ libraries) where
  pub chosen_here : (r : Result (Option (Vec number.Tree Global)) ExpandFault) →
      ((known : Known) (ps : List (Tree Identifier × Trees Identifier)) → Knows l known → AllMatch (IsChoice w) cs ps → Chooses w here r (chosen_among known ps)) →
      (known : Known) (ps : List (Tree Identifier × Trees Identifier)) → Knows libraries known → AllMatch (IsChoice work) cs ps → Chooses work here r (chosen_among known ps)
  chosen_here r f known ps knows are =
      subst (λ (x : Work). Chooses x here r (chosen_among known ps)) same
      (f known ps (subst (λ (x : BTreeSet (String Global)). Knows x known) (sym known_same) knows) (subst (λ (x : Work). AllMatch (IsChoice x) cs ps) (sym same) are))

  pub named_here : (chosen : Option (Vec number.Tree Global)) → ((region : Region) → AllByRecursion (ChoiceNamed w region) cs → IfSome chosen (TreesNamed w region)) →
      (region : Region) → AllByRecursion (ChoiceNamed work region) cs → IfSome chosen (TreesNamed work region)
  named_here chosen f region named =
      subst (λ (x : Work). IfSome chosen (TreesNamed x region)) same (f region (subst (λ (x : Work). AllByRecursion (ChoiceNamed x region) cs) (sym same) named))
