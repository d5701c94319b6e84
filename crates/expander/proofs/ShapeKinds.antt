-- A shape of the code that splices or defines stands for a shape of the same kind.
use Rattle.std.proofs.Common.{◌≡◌, ℕ, ◌+◌, List, [], ◌∷◌, map, length, Option, Some, None, refl, ap, subst, arith}
use Rattle.std.proofs.lemmas.List.{length-append, length-map}
use Rattle.std.specs.Prelude.{Vec}
use Rattle.std.specs.declared.alloc.Global.{Global}
use Rattle.scheme_model.specs.Trees.{Tree, Trees}
use Rattle.scheme_model.specs.ExpansionFaults.{Named}
use Rattle.scheme_model.specs.Shapes.{Formals, Clause, FieldShape as ModelField, RecordShape, Variable, Procedure as procedure}
use Rattle.scheme_model.specs.Order.{modifiers, record_names}
use Rattle.scheme_model.specs.Ident.{Ident as Identifier}
use Rattle.syntax_tree.specs.Works.{StandsFor}
use Rattle.syntax_tree.specs.declared.trees.Work.{Work}
use Rattle.syntax_tree.specs.declared.trees.nodes.Tree as number
use Rattle.core_forms.specs.Ends.{IsRecord, ShapeFor}
use Rattle.core_forms.specs.Forms.{Shape, Quoted, Quasi, Procedure, Procedures, Conditional, Assignment, Sequence, Definition, Several, RecordType, Syntax, Local, Choices, ErrorText, Inclusion}
use Rattle.core_forms.specs.Parts.{AllMatch, IsName, IsNameIfAny, IsField, AreTrees, IsFormals, IsClause, AreChoices}
use Rattle.core_forms.specs.declared.shape.Choice.{Choice}
use Rattle.core_forms.specs.declared.shape.ClauseShape.{ClauseShape}
use Rattle.core_forms.specs.declared.shape.CoreShape as code
use Rattle.core_forms.specs.declared.shape.CoreShape.TheVariants as shapes
use Rattle.core_forms.specs.declared.shape.FieldShape.{FieldShape}
use Rattle.core_forms.specs.declared.shape.Formals as code_formals
use Rattle.core_forms.specs.declared.shape.NamePart.{NamePart}
use Rattle.expander.specs.Passed.{IsPassed}

abbrev kind : Shape → ℕ
kind (Quoted t) = 0
kind (Quasi t p) = 1
kind (Procedure c) = 2
kind (Procedures cs) = 3
kind (Conditional ts) = 4
kind (Assignment p) = 5
kind (Sequence ts) = 6
kind (Definition d) = 7
kind (Several p) = 8
kind (RecordType r) = 9
kind (Syntax p) = 10
kind (Local m) = 11
kind (Choices ps) = 12
kind (ErrorText text) = 13
kind Inclusion = 14

abbrev code_kind : code.CoreShape → ℕ
code_kind (shapes.Quote n) = 0
code_kind (shapes.Quasi n ns places) = 1
code_kind (shapes.Lambda c) = 2
code_kind (shapes.CaseLambda cs) = 3
code_kind (shapes.If ns) = 4
code_kind (shapes.Set n v) = 5
code_kind (shapes.Begin ns) = 6
code_kind (shapes.Define n v) = 7
code_kind (shapes.Procedure n c) = 7
code_kind (shapes.Values f v) = 8
code_kind (shapes.RecordType n c us p fs) = 9
code_kind (shapes.DefineSyntax n v) = 10
code_kind (shapes.LetSyntax ms ns) = 11
code_kind (shapes.CondExpand cs) = 12
code_kind (shapes.SyntaxError s) = 13
code_kind shapes.Include = 14

pub same_kind : (work : Work) (x : code.CoreShape) (m : Shape) → ShapeFor work x m → code_kind x ≡ kind m
same_kind work x (Quoted t) h = ap code_kind h.1
same_kind work x (Quasi t p) h = ap code_kind h.1.1.1
same_kind work x (Procedure c) h = ap code_kind h.1
same_kind work x (Procedures cs) h = ap code_kind h.1
same_kind work x (Conditional ts) h = ap code_kind h.1
same_kind work x (Assignment p) h = ap code_kind h.1.1
same_kind work x (Sequence ts) h = ap code_kind h.1
same_kind work x (Definition (Variable n t)) h = ap code_kind h.1.1
same_kind work x (Definition (procedure n c)) h = ap code_kind h.1.1
same_kind work x (Several p) h = ap code_kind h.1.1
same_kind work x (RecordType r) h = ap code_kind h.1.1.1.1.1
same_kind work x (Syntax p) h = ap code_kind h.1.1
same_kind work x (Local m) h = ap code_kind h.1.1
same_kind work x (Choices ps) h = ap code_kind h.1
same_kind work x (ErrorText text) h = ap code_kind h.1
same_kind work x Inclusion h = ap code_kind h

module _ (work : Work) (P : Shape → Type 0) where
  pub as_sequence : (ns : Vec number.Tree Global) (m : Shape) → ShapeFor work (shapes.Begin ns) m → ((ts : Trees Identifier) → AreTrees work ns ts → P (Sequence ts)) → P m
  as_sequence ns (Sequence ts) h f = let at = h.1 in let e : h.0 ≡ ns = cc in f ts (subst (λ (x : Vec number.Tree Global). AreTrees work x ts) e h.2)
  as_sequence ns m h f = let k = same_kind work (shapes.Begin ns) m h in absurd (omega (arith, k))

  pub as_choices : (cs : Vec Choice Global) (m : Shape) → ShapeFor work (shapes.CondExpand cs) m → ((ps : _) → AreChoices work cs ps → P (Choices ps)) → P m
  as_choices cs (Choices ps) h f = let at = h.1 in let e : h.0 ≡ cs = cc in f ps (subst (λ (x : Vec Choice Global). AreChoices work x ps) e h.2)
  as_choices cs m h f = let k = same_kind work (shapes.CondExpand cs) m h in absurd (omega (arith, k))

  pub as_variable : (n : NamePart) (v : number.Tree) (m : Shape) → ShapeFor work (shapes.Define n v) m → ((i : Named Identifier) (t : Tree Identifier) → IsName work n i → StandsFor work v t → P (Definition (Variable i t))) → P m
  as_variable n v (Definition (Variable i t)) h f =
      let at = h.1.1 in
      let name : h.0 ≡ n = cc in
      let value : h.1.0 ≡ v = cc in
      f i t (subst (λ (x : NamePart). IsName work x i) name h.1.2) (subst (λ (x : number.Tree). StandsFor work x t) value h.1.3)
  as_variable n v (Definition (procedure i c)) h f = let at = h.1.1 in absurd cc
  as_variable n v m h f = let k = same_kind work (shapes.Define n v) m h in absurd (omega (arith, k))

  pub as_procedure : (n : NamePart) (c : ClauseShape) (m : Shape) → ShapeFor work (shapes.Procedure n c) m → ((i : Named Identifier) (d : Clause Identifier) → IsName work n i → IsClause work c d → P (Definition (procedure i d))) → P m
  as_procedure n c (Definition (procedure i d)) h f =
      let at = h.1.1 in
      let name : h.0 ≡ n = cc in
      let clause : h.1.0 ≡ c = cc in
      f i d (subst (λ (x : NamePart). IsName work x i) name h.1.2) (subst (λ (x : ClauseShape). IsClause work x d) clause h.1.3)
  as_procedure n c (Definition (Variable i t)) h f = let at = h.1.1 in absurd cc
  as_procedure n c m h f = let k = same_kind work (shapes.Procedure n c) m h in absurd (omega (arith, k))

  pub as_values : (a : code_formals.Formals) (v : number.Tree) (m : Shape) → ShapeFor work (shapes.Values a v) m → ((d : Formals Identifier) (t : Tree Identifier) → IsFormals work a d → StandsFor work v t → P (Several (d, t))) → P m
  as_values a v (Several p) h f =
      let at = h.1.1 in
      let formals : h.0 ≡ a = cc in
      let value : h.1.0 ≡ v = cc in
      f p.0 p.1 (subst (λ (x : code_formals.Formals). IsFormals work x p.0) formals h.1.2) (subst (λ (x : number.Tree). StandsFor work x p.1) value h.1.3)
  as_values a v m h f = let k = same_kind work (shapes.Values a v) m h in absurd (omega (arith, k))

  pub as_syntax : (n : NamePart) (v : number.Tree) (m : Shape) → ShapeFor work (shapes.DefineSyntax n v) m → ((i : Named Identifier) (t : Tree Identifier) → IsName work n i → StandsFor work v t → P (Syntax (i, t))) → P m
  as_syntax n v (Syntax p) h f =
      let at = h.1.1 in
      let name : h.0 ≡ n = cc in
      let value : h.1.0 ≡ v = cc in
      f p.0 p.1 (subst (λ (x : NamePart). IsName work x p.0) name h.1.2) (subst (λ (x : number.Tree). StandsFor work x p.1) value h.1.3)
  as_syntax n v m h f = let k = same_kind work (shapes.DefineSyntax n v) m h in absurd (omega (arith, k))

  pub as_record : (n c : NamePart) (us : Vec NamePart Global) (p : NamePart) (fs : Vec FieldShape Global) (m : Shape) → ShapeFor work (shapes.RecordType n c us p fs) m → ((r : RecordShape Identifier) → IsRecord work n c us p fs r → P (RecordType r)) → P m
  as_record n c us p fs (RecordType r) h f =
      let at = h.1.1.1.1.1 in
      let a : h.0 ≡ n = cc in
      let b : h.1.0 ≡ c = cc in
      let d : h.1.1.0 ≡ us = cc in
      let e : h.1.1.1.0 ≡ p = cc in
      let g : h.1.1.1.1.0 ≡ fs = cc in
      f r
      (subst (λ (x : NamePart). IsRecord work x c us p fs r) a
      (subst (λ (x : NamePart). IsRecord work h.0 x us p fs r) b
      (subst (λ (x : Vec NamePart Global). IsRecord work h.0 h.1.0 x p fs r) d
      (subst (λ (x : NamePart). IsRecord work h.0 h.1.0 h.1.1.0 x fs r) e
      (subst (λ (x : Vec FieldShape Global). IsRecord work h.0 h.1.0 h.1.1.0 h.1.1.1.0 x r) g h.1.1.1.1.2)))))
  as_record n c us p fs m h f = let k = same_kind work (shapes.RecordType n c us p fs) m h in absurd (omega (arith, k))

-- a shape that splices or defines is none but these
pub none_passed : {P : Type 0} (work : Work) (x : code.CoreShape) (m : Shape) → ShapeFor work x m → IsPassed m → ((ns : Vec number.Tree Global) → x ≡ shapes.Begin ns → ⊥) → ((cs : Vec Choice Global) → x ≡ shapes.CondExpand cs → ⊥) →
    ((n : NamePart) (v : number.Tree) → x ≡ shapes.Define n v → ⊥) → ((n : NamePart) (c : ClauseShape) → x ≡ shapes.Procedure n c → ⊥) → ((a : code_formals.Formals) (v : number.Tree) → x ≡ shapes.Values a v → ⊥) →
    ((n c : NamePart) (us : Vec NamePart Global) (p : NamePart) (fs : Vec FieldShape Global) → x ≡ shapes.RecordType n c us p fs → ⊥) → ((n : NamePart) (v : number.Tree) → x ≡ shapes.DefineSyntax n v → ⊥) → P
none_passed work x (Sequence ts) h is b c d q v r y = absurd (b h.0 h.1)
none_passed work x (Choices ps) h is b c d q v r y = absurd (c h.0 h.1)
none_passed work x (Definition (Variable i t)) h is b c d q v r y = absurd (d h.0 h.1.0 h.1.1)
none_passed work x (Definition (procedure i k)) h is b c d q v r y = absurd (q h.0 h.1.0 h.1.1)
none_passed work x (Several p) h is b c d q v r y = absurd (v h.0 h.1.0 h.1.1)
none_passed work x (RecordType k) h is b c d q v r y = absurd (r h.0 h.1.0 h.1.1.0 h.1.1.1.0 h.1.1.1.1.0 h.1.1.1.1.1)
none_passed work x (Syntax p) h is b c d q v r y = absurd (y h.0 h.1.0 h.1.1)
none_passed work x (Quoted t) h is b c d q v r y = absurd is
none_passed work x (Quasi t p) h is b c d q v r y = absurd is
none_passed work x (Procedure k) h is b c d q v r y = absurd is
none_passed work x (Procedures cs) h is b c d q v r y = absurd is
none_passed work x (Conditional ts) h is b c d q v r y = absurd is
none_passed work x (Assignment p) h is b c d q v r y = absurd is
none_passed work x (Local k) h is b c d q v r y = absurd is
none_passed work x (ErrorText text) h is b c d q v r y = absurd is
none_passed work x Inclusion h is b c d q v r y = absurd is

-- ---- a record's definition defines so many names whatever it stands for

abbrev some_names : Option (Named Identifier) → ℕ
some_names None = 0
some_names (Some m) = 1

module _ (work : Work) where
  as_many : (o : Option NamePart) (a b : Option (Named Identifier)) → IsNameIfAny work o a → IsNameIfAny work o b → some_names a ≡ some_names b
  as_many None None None h g = refl
  as_many None None (Some m) h g = absurd g
  as_many None (Some m) b h g = absurd h
  as_many (Some n) None b h g = absurd h
  as_many (Some n) (Some m) None h g = absurd g
  as_many (Some n) (Some m) (Some k) h g = refl

  modifiers_count : (f : ModelField Identifier) (fs : List (ModelField Identifier)) → length (modifiers (f ∷ fs)) ≡ some_names f.modifier + length (modifiers fs)
  modifiers_count f fs = by f.modifier
    where
      by : (o : Option (Named Identifier)) → length (modifiers (record { field = f.field; accessor = f.accessor; modifier = o } ∷ fs)) ≡ some_names o + length (modifiers fs)
      by None = omega arith
      by (Some m) = omega arith

  fields_alike : (xs : List FieldShape) (ms ns : List (ModelField Identifier)) → AllMatch (IsField work) xs ms → AllMatch (IsField work) xs ns → (length ms ≡ length ns) × (length (modifiers ms) ≡ length (modifiers ns))
  fields_alike [] [] [] h g = (refl, refl)
  fields_alike [] [] (n ∷ ns) h g = absurd g
  fields_alike [] (m ∷ ms) ns h g = absurd h
  fields_alike (x ∷ xs) [] ns h g = absurd h
  fields_alike (x ∷ xs) (m ∷ ms) [] h g = absurd g
  fields_alike (x ∷ xs) (m ∷ ms) (n ∷ ns) h g =
      let rest = fields_alike xs ms ns h.1 g.1 in
      let one = as_many x.modifier m.modifier n.modifier h.0.modifier g.0.modifier in
      let a = modifiers_count m ms in
      let b = modifiers_count n ns in
      let rest0 = rest.0 in
      let rest1 = rest.1 in
      (omega (arith, rest0), omega (arith, one, a, b, rest1))

  pub records_alike : (n c : NamePart) (us : Vec NamePart Global) (p : NamePart) (fs : Vec FieldShape Global) (r q : RecordShape Identifier) → IsRecord work n c us p fs r → IsRecord work n c us p fs q →
      length r.fields + length (record_names r) ≡ length q.fields + length (record_names q)
  records_alike n c us p fs r q h g =
      let same = fields_alike fs.items r.fields q.fields h.fields g.fields in
      let same0 = same.0 in
      let same1 = same.1 in
      let a = length-append (map (λ (f : ModelField Identifier). f.accessor) r.fields) (modifiers r.fields) in
      let b = length-append (map (λ (f : ModelField Identifier). f.accessor) q.fields) (modifiers q.fields) in
      let d = length-map r.fields (λ (f : ModelField Identifier). f.accessor) in
      let e = length-map q.fields (λ (f : ModelField Identifier). f.accessor) in
      omega (arith, same0, same1, a, b, d, e)
