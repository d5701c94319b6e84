-- What takes effect while forms are gone through, what a record defines, and where its fields stand.
use Rattle.std.proofs.Common.{◌≡◌, ℕ, zero, suc, ◌+◌, ◌<◌, ◌≤◌, List, [], ◌∷◌, ◌++◌, length, map, get_or, drop, take, Bool, true, false, cond, Option, Some, None, refl, sym, ap, ◌∙◌, subst, arith, add-one, append_assoc, append-nil}
use Rattle.std.specs.Prelude.{is_some, filter_map, nat_eq, position, unwrap_or, if◌then◌else◌}
use Rattle.std.specs.List.{position_from, cons_option}
use Rattle.std.proofs.lemmas.Bool.{eqb-true}
use Rattle.std.proofs.lemmas.Iterator.Adapters.{position_from-zero}
use Rattle.std.proofs.lemmas.List.{take_more, length-take-le}
use Rattle.scheme_model.specs.Trees.{Trees, Tail}
use Rattle.scheme_model.specs.Keywords.{CoreKeyword, IsQuote, IsQuasiquote, IsLambda, IsCaseLambda, IsIf, IsSet, IsBegin, IsDefine, IsDefineValues, IsDefineRecordType, IsDefineSyntax, IsLetSyntax, IsLetrecSyntax, IsCondExpand, IsSyntaxError, IsInclude}
use Rattle.scheme_model.specs.ExpansionFaults.{Named}
use Rattle.scheme_model.specs.Shapes.{FieldShape as ModelField, RecordShape}
use Rattle.scheme_model.specs.Cores.{Target, FieldUse}
use Rattle.scheme_model.specs.Order.{Here, Form, Pending, Ops, Going, Expression, put, run_core, modifiers, modified, record_names, position as field_position, is_some as model_is_some}
use Rattle.scheme_model.specs.Ident.{Ident as Identifier, same_ident}
use Rattle.syntax_tree.specs.Names.{AreToldApart}
use Rattle.syntax_tree.specs.Macros.{IsIdent}
use Rattle.syntax_tree.specs.declared.trees.Work.{Work}
use Rattle.syntax_tree.proofs.RoleLaws.{same_by_number}
use Rattle.core_forms.specs.Parts.{AllMatch, IsName, IsNameIfAny, IsField}
use Rattle.core_forms.specs.declared.shape.NamePart.{NamePart}
use Rattle.core_forms.specs.declared.shape.FieldShape.{FieldShape}
use Rattle.core_forms.proofs.Reading.{matches_more, matches_both}
use Rattle.core_tree.specs.Names.{IsField as IsUse}
use Rattle.core_tree.specs.declared.cores.FieldUse as code_use
use Rattle.form_parts.specs.FormsSeen.{takes_effect, used_fields}

-- what takes no effect is set aside
pub set_aside : {E A L S : Type 0} (ops : Ops E A L S) (go : Going A L S) (here : Here) (e : E) (c : CoreKeyword) (k : Target) (form : Form A) (ts : Trees A) (tail : Tail A) (p : Pending A L) (s : S) → takes_effect c ≡ false →
    run_core ops go here e c k form ts tail p s ≡ go (put (Expression form) p) s
set_aside ops go here e IsQuote k form ts tail p s h = refl
set_aside ops go here e IsQuasiquote k form ts tail p s h = refl
set_aside ops go here e IsLambda k form ts tail p s h = refl
set_aside ops go here e IsCaseLambda k form ts tail p s h = refl
set_aside ops go here e IsIf k form ts tail p s h = refl
set_aside ops go here e IsSet k form ts tail p s h = refl
set_aside ops go here e IsBegin k form ts tail p s h = absurd cc
set_aside ops go here e IsDefine k form ts tail p s h = absurd cc
set_aside ops go here e IsDefineValues k form ts tail p s h = absurd cc
set_aside ops go here e IsDefineRecordType k form ts tail p s h = absurd cc
set_aside ops go here e IsDefineSyntax k form ts tail p s h = absurd cc
set_aside ops go here e IsLetSyntax k form ts tail p s h = refl
set_aside ops go here e IsLetrecSyntax k form ts tail p s h = refl
set_aside ops go here e IsCondExpand k form ts tail p s h = absurd cc
set_aside ops go here e IsSyntaxError k form ts tail p s h = refl
set_aside ops go here e IsInclude k form ts tail p s h = refl

-- ---- what a record defines

-- the field at a place
pub record IsFieldAt (work : Work) (fs : List (ModelField Identifier)) (k : ℕ) (c : FieldShape) : Type 0 where
  pub field : ModelField Identifier
  pub matches : IsField work c field
  pub split : drop k fs ≡ field ∷ drop (k + 1) fs

pub field_there : (work : Work) (k : ℕ) (cs : List FieldShape) (fs : List (ModelField Identifier)) (d : FieldShape) → AllMatch (IsField work) cs fs → k < length cs → IsFieldAt work fs k (get_or cs k d)
field_there work k [] fs d h l = absurd (omega arith)
field_there work k (c ∷ cs) [] d h l = absurd h
field_there work zero (c ∷ cs) (f ∷ fs) d h l = record { field = f; matches = h.0; split = refl }
field_there work (suc k) (c ∷ cs) (f ∷ fs) d h l =
    let q = field_there work k cs fs d h.1 (omega arith) in
    let more : suc (k + 1) ≡ suc k + 1 = omega arith in
    record { field = q.field; matches = q.matches; split = q.split ∙ ap (λ (m : ℕ). q.field ∷ drop m (f ∷ fs)) more }

pub fields_past : (work : Work) (k : ℕ) (cs : List FieldShape) (fs : List (ModelField Identifier)) → AllMatch (IsField work) cs fs → length cs ≤ k → drop k fs ≡ []
fields_past work zero [] [] h l = refl
fields_past work zero [] (f ∷ fs) h l = absurd h
fields_past work zero (c ∷ cs) fs h l = absurd (omega arith)
fields_past work (suc k) [] [] h l = refl
fields_past work (suc k) [] (f ∷ fs) h l = absurd h
fields_past work (suc k) (c ∷ cs) [] h l = absurd h
fields_past work (suc k) (c ∷ cs) (f ∷ fs) h l = fields_past work k cs fs h.1 (omega arith)

module _ (work : Work) where
  accessors_match : (cs : List FieldShape) (fs : List (ModelField Identifier)) → AllMatch (IsField work) cs fs → AllMatch (IsName work) (map (λ c. c.accessor) cs) (map (λ f. f.accessor) fs)
  accessors_match [] [] h = tt
  accessors_match [] (f ∷ fs) h = absurd h
  accessors_match (c ∷ cs) [] h = absurd h
  accessors_match (c ∷ cs) (f ∷ fs) h = (h.0.accessor, accessors_match cs fs h.1)

  modifiers_match : (cs : List FieldShape) (fs : List (ModelField Identifier)) → AllMatch (IsField work) cs fs → AllMatch (IsName work) (filter_map (λ c. c.modifier) cs) (modifiers fs)
  modifiers_match [] [] h = tt
  modifiers_match [] (f ∷ fs) h = absurd h
  modifiers_match (c ∷ cs) [] h = absurd h
  modifiers_match (c ∷ cs) (f ∷ fs) h = go c.name c.accessor c.modifier f.field f.accessor f.modifier h.0.modifier (modifiers_match cs fs h.1)
    where
      go : (m a : NamePart) (o : Option NamePart) (n b : Named Identifier) (q : Option (Named Identifier)) → IsNameIfAny work o q → AllMatch (IsName work) (filter_map (λ c. c.modifier) cs) (modifiers fs) →
          AllMatch (IsName work) (filter_map (λ c. c.modifier) (record { name = m; accessor = a; modifier = o } ∷ cs)) (modifiers (record { field = n; accessor = b; modifier = q } ∷ fs))
      go m a None n b None h g = g
      go m a None n b (Some q) h g = absurd h
      go m a (Some o) n b None h g = absurd h
      go m a (Some o) n b (Some q) h g = (h, g)

  -- the type, the constructor, the predicate, the accessors and the modifiers
  pub names_match : (n c p : NamePart) (fs : List FieldShape) (r : RecordShape Identifier) → IsName work n r.type → IsName work c r.constructor → IsName work p r.predicate → AllMatch (IsField work) fs r.fields →
      AllMatch (IsName work) (n ∷ c ∷ p ∷ map (λ f. f.accessor) fs ++ filter_map (λ f. f.modifier) fs) (record_names r)
  names_match n c p fs r type constructor predicate fields =
      matches_both (IsName work) (n ∷ c ∷ p ∷ map (λ f. f.accessor) fs) (filter_map (λ f. f.modifier) fs) (r.type ∷ r.constructor ∷ r.predicate ∷ map (λ f. f.accessor) r.fields) (modifiers r.fields)
      (type, (constructor, (predicate, accessors_match fs r.fields fields))) (modifiers_match fs r.fields fields)

-- a field more of which it is known whether it has a modifier
pub same_some : (work : Work) (o : Option NamePart) (q : Option (Named Identifier)) → IsNameIfAny work o q → is_some o ≡ model_is_some q
same_some work None None h = refl
same_some work None (Some q) h = absurd h
same_some work (Some o) None h = absurd h
same_some work (Some o) (Some q) h = refl

pub modified_more : (work : Work) (fs : List (ModelField Identifier)) (k : ℕ) (c : FieldShape) (at : IsFieldAt work fs k c) (b : Bool) (old new : List ℕ) → b ≡ is_some c.modifier → old ++ modified k (drop k fs) ≡ modified 0 fs →
    new ≡ (if b then old ++ k ∷ [] else old) → new ++ modified (k + 1) (drop (k + 1) fs) ≡ modified 0 fs
modified_more work fs k c at b old new is so_far e =
    ap (λ (l : List ℕ). l ++ modified (k + 1) (drop (k + 1) fs)) e ∙ go b
    ∙ ap (λ (t : Bool). old ++ (if t then k ∷ modified (k + 1) (drop (k + 1) fs) else modified (k + 1) (drop (k + 1) fs))) (is ∙ same_some work c.modifier at.field.modifier at.matches.modifier)
    ∙ ap (λ (n : ℕ). old ++ (if model_is_some at.field.modifier then k ∷ modified n (drop (k + 1) fs) else modified n (drop (k + 1) fs))) (add-one k)
    ∙ ap (λ (l : List (ModelField Identifier)). old ++ modified k l) (sym at.split) ∙ so_far
  where
    go : (b : Bool) → (if b then old ++ k ∷ [] else old) ++ modified (k + 1) (drop (k + 1) fs) ≡ old ++ (if b then k ∷ modified (k + 1) (drop (k + 1) fs) else modified (k + 1) (drop (k + 1) fs))
    go true = append_assoc old (k ∷ []) (modified (k + 1) (drop (k + 1) fs))
    go false = refl

pub modified_all : (fs : List (ModelField Identifier)) (k : ℕ) (places : List ℕ) → places ++ modified k (drop k fs) ≡ modified 0 fs → drop k fs ≡ [] → places ≡ modified 0 fs
modified_all fs k places so_far past = sym (append-nil places) ∙ ap (λ (l : List (ModelField Identifier)). places ++ modified k l) (sym past) ∙ so_far

-- ---- places of fields

abbrev or_place : Option ℕ → Bool → ℕ → Option ℕ
or_place (Some j) b k = Some j
or_place None b k = cond b (Some k) None

place_from : (work : Work) → AreToldApart work.symbols.idents → (n : ℕ) (i : Identifier) → IsIdent work.symbols n i → (j : ℕ) (cs : List FieldShape) (fs : List (ModelField Identifier)) → AllMatch (IsField work) cs fs →
    unwrap_or (position_from (λ c. nat_eq n c.name.ident) j cs) (j + length cs) ≡ j + field_position same_ident i fs
place_from work apart n i is j [] [] h = refl
place_from work apart n i is j [] (f ∷ fs) h = absurd h
place_from work apart n i is j (c ∷ cs) [] h = absurd h
place_from work apart n i is j (c ∷ cs) (f ∷ fs) h =
    ap (λ (b : Bool). unwrap_or (cond b (Some j) (position_from (λ c. nat_eq n c.name.ident) (j + 1) cs)) (j + suc (length cs))) (sym (same_by_number work.symbols apart c.name.ident n f.field.name i h.0.field.0 is)) ∙ go (place_from work apart n i is (j + 1) cs fs h.1) (same_ident f.field.name i)
  where
    go : unwrap_or (position_from (λ c. nat_eq n c.name.ident) (j + 1) cs) (j + 1 + length cs) ≡ j + 1 + field_position same_ident i fs → (b : Bool) → unwrap_or (cond b (Some j) (position_from (λ c. nat_eq n c.name.ident) (j + 1) cs)) (j + suc (length cs)) ≡ j + (if b then 0 else suc (field_position same_ident i fs))
    go g true = omega arith
    go g false =
        let a : j + suc (length cs) ≡ j + 1 + length cs = omega arith in
        let b : j + 1 + field_position same_ident i fs ≡ j + suc (field_position same_ident i fs) = omega arith in
        ap (unwrap_or (position_from (λ c. nat_eq n c.name.ident) (j + 1) cs)) a ∙ g ∙ b

-- a name's place among the fields is that of the definition
pub place_is : (work : Work) → AreToldApart work.symbols.idents → (n : ℕ) (i : Identifier) → IsIdent work.symbols n i → (cs : List FieldShape) (fs : List (ModelField Identifier)) → AllMatch (IsField work) cs fs →
    unwrap_or (position (λ c. nat_eq n c.name.ident) cs) (length cs) ≡ field_position same_ident i fs
place_is work apart n i is cs fs h =
    let a : length cs ≡ 0 + length cs = omega arith in
    let b : 0 + field_position same_ident i fs ≡ field_position same_ident i fs = omega arith in
    ap (λ (o : Option ℕ). unwrap_or o (length cs)) (position_from-zero (λ (c : FieldShape). nat_eq n c.name.ident) cs) ∙ ap (unwrap_or (position_from (λ c. nat_eq n c.name.ident) 0 cs)) a ∙ place_from work apart n i is 0 cs fs h ∙ b

-- one field more
position_end : {A : Type 0} (t : A → Bool) (j : ℕ) (xs : List A) (x : A) → position_from t j (xs ++ x ∷ []) ≡ or_place (position_from t j xs) (t x) (j + length xs)
position_end t j [] x = ap (λ (n : ℕ). cond (t x) (Some n) None) (let e : j ≡ j + 0 = omega arith in e)
position_end t j (y ∷ xs) x =
    ap (cond (t y) (Some j)) (position_end t (j + 1) xs x ∙ ap (or_place (position_from t (j + 1) xs) (t x)) (let e : j + 1 + length xs ≡ j + suc (length xs) = omega arith in e)) ∙ go (t y)
  where
    go : (b : Bool) → cond b (Some j) (or_place (position_from t (j + 1) xs) (t x) (j + suc (length xs))) ≡ or_place (cond b (Some j) (position_from t (j + 1) xs)) (t x) (j + suc (length xs))
    go true = refl
    go false = refl

field_end : (cs : List FieldShape) (k : ℕ) (c d : FieldShape) (n : ℕ) → k < length cs → c ≡ get_or cs k d → position (λ d. nat_eq n d.name.ident) (take (k + 1) cs) ≡ or_place (position (λ d. nat_eq n d.name.ident) (take k cs)) (nat_eq n c.name.ident) k
field_end cs k c d n lt is =
    let count : 0 + length (take k cs) ≡ k = let e = length-take-le k cs (omega arith) in omega arith in
    let t : FieldShape → Bool = λ e. nat_eq n e.name.ident in
    ap (position t) (take_more cs k d lt ∙ ap (λ (x : FieldShape). take k cs ++ x ∷ []) (sym is)) ∙ position_from-zero t (take k cs ++ c ∷ []) ∙ position_end t 0 (take k cs) c
    ∙ ap (λ (o : Option ℕ). or_place o (nat_eq n c.name.ident) (0 + length (take k cs))) (sym (position_from-zero t (take k cs)))
    ∙ ap (or_place (position t (take k cs)) (nat_eq n c.name.ident)) count

-- a field whose name was there, and one whose name is new
pub known_field : (cs : List FieldShape) (k : ℕ) (c d : FieldShape) (n : ℕ) → k < length cs → c ≡ get_or cs k d → is_some (position (λ d. nat_eq c.name.ident d.name.ident) (take k cs)) ≡ true →
    position (λ d. nat_eq n d.name.ident) (take k cs) ≡ position (λ d. nat_eq n d.name.ident) (take (k + 1) cs)
known_field cs k c d n lt is there =
    go (position (λ d. nat_eq n d.name.ident) (take k cs)) refl (nat_eq n c.name.ident) refl
    ∙ sym (field_end cs k c d n lt is)
  where
    go : (o : Option ℕ) → position (λ d. nat_eq n d.name.ident) (take k cs) ≡ o → (b : Bool) → nat_eq n c.name.ident ≡ b → o ≡ or_place o b k
    go (Some j) e b t = refl
    go None e false t = refl
    go None e true t =
        let same : n ≡ c.name.ident = eqb-true n c.name.ident t in
        let no : false ≡ true = sym (ap is_some (ap (λ (m : ℕ). position (λ d. nat_eq m d.name.ident) (take k cs)) (sym same) ∙ e)) ∙ there in
        absurd cc

pub new_field : (cs : List FieldShape) (k : ℕ) (c d : FieldShape) (n : ℕ) (old new : Option ℕ) (at : Bool) → k < length cs → c ≡ get_or cs k d → old ≡ position (λ d. nat_eq n d.name.ident) (take k cs) → is_some (position (λ d. nat_eq c.name.ident d.name.ident) (take k cs)) ≡ false →
    at ≡ nat_eq n c.name.ident → new ≡ cond at (Some k) old → new ≡ position (λ d. nat_eq n d.name.ident) (take (k + 1) cs)
new_field cs k c d n old new at lt is o none t e =
    e ∙ (λ j. cond (t j) (Some k) (o j)) ∙ go (nat_eq n c.name.ident) refl (position (λ d. nat_eq n d.name.ident) (take k cs)) refl ∙ sym (field_end cs k c d n lt is)
  where
    go : (b : Bool) → nat_eq n c.name.ident ≡ b → (p : Option ℕ) → position (λ d. nat_eq n d.name.ident) (take k cs) ≡ p → cond b (Some k) p ≡ or_place p b k
    go false t None e = refl
    go false t (Some j) e = refl
    go true t None e = refl
    go true t (Some j) e =
        let same : n ≡ c.name.ident = eqb-true n c.name.ident t in
        let no : true ≡ false = sym (ap is_some (ap (λ (m : ℕ). position (λ d. nat_eq m d.name.ident) (take k cs)) (sym same) ∙ e)) ∙ none in
        absurd cc

-- ---- modifiers one after another

option_both : {A : Type 0} (o : Option A) (xs ys : List A) → cons_option o (xs ++ ys) ≡ cons_option o xs ++ ys
option_both None xs ys = refl
option_both (Some a) xs ys = refl

filter_map_both : {A B : Type 0} (h : A → Option B) (xs ys : List A) → filter_map h (xs ++ ys) ≡ filter_map h xs ++ filter_map h ys
filter_map_both h [] ys = refl
filter_map_both h (x ∷ xs) ys = ap (cons_option (h x)) (filter_map_both h xs ys) ∙ option_both (h x) (filter_map h xs) (filter_map h ys)

pub modifier_more : (fs : List FieldShape) (k : ℕ) (d : FieldShape) (o : Option NamePart) (old mid new : List NamePart) → k < length fs → (get_or fs k d).modifier ≡ o → mid ≡ old ++ filter_map (λ f. f.modifier) (take k fs) → new ≡ mid ++ cons_option o [] →
    new ≡ old ++ filter_map (λ f. f.modifier) (take (k + 1) fs)
modifier_more fs k d o old mid new lt is so_far e =
    e ∙ ap (λ (l : List NamePart). l ++ cons_option o []) so_far ∙ append_assoc old (filter_map (λ f. f.modifier) (take k fs)) (cons_option o [])
    ∙ ap (λ (p : Option NamePart). old ++ (filter_map (λ f. f.modifier) (take k fs) ++ cons_option p [])) (sym is)
    ∙ ap (λ (l : List NamePart). old ++ l) (sym (filter_map_both (λ (f : FieldShape). f.modifier) (take k fs) (get_or fs k d ∷ [])) ∙ ap (filter_map (λ (f : FieldShape). f.modifier)) (sym (take_more fs k d lt)))

-- ---- names one after another

pub record IsNameAt (work : Work) (ns : List (Named Identifier)) (k : ℕ) (c : NamePart) : Type 0 where
  pub found : Named Identifier
  pub matches : IsName work c found
  pub split : take (k + 1) ns ≡ take k ns ++ found ∷ []

pub name_at_place : (work : Work) (k : ℕ) (cs : List NamePart) (ns : List (Named Identifier)) (d : NamePart) → AllMatch (IsName work) cs ns → k < length cs → IsNameAt work ns k (get_or cs k d)
name_at_place work k [] ns d h l = absurd (omega arith)
name_at_place work k (c ∷ cs) [] d h l = absurd h
name_at_place work zero (c ∷ cs) (n ∷ ns) d h l = record { found = n; matches = h.0; split = refl }
name_at_place work (suc k) (c ∷ cs) (n ∷ ns) d h l =
    let q = name_at_place work k cs ns d h.1 (omega arith) in
    let more : suc k + 1 ≡ suc (k + 1) = omega arith in
    record { found = q.found; matches = q.matches; split = ap (λ (m : ℕ). take m (n ∷ ns)) more ∙ ap (λ (l : List (Named Identifier)). n ∷ l) q.split }

pub names_all : (work : Work) (k : ℕ) (cs : List NamePart) (ns : List (Named Identifier)) → AllMatch (IsName work) cs ns → length cs ≤ k → take k ns ≡ ns
names_all work zero [] [] h l = refl
names_all work zero [] (n ∷ ns) h l = absurd h
names_all work zero (c ∷ cs) ns h l = absurd (omega arith)
names_all work (suc k) [] [] h l = refl
names_all work (suc k) [] (n ∷ ns) h l = absurd h
names_all work (suc k) (c ∷ cs) [] h l = absurd h
names_all work (suc k) (c ∷ cs) (n ∷ ns) h l = ap (λ (l : List (Named Identifier)). n ∷ l) (names_all work k cs ns h.1 (omega arith))

used_both : (fs : List (ModelField Identifier)) (ns ms : List (Named Identifier)) → used_fields fs (ns ++ ms) ≡ used_fields fs ns ++ used_fields fs ms
used_both fs [] ms = refl
used_both fs (n ∷ ns) ms = ap (λ (l : List FieldUse). record { field = field_position same_ident n.name fs; occ = n.occ } ∷ l) (used_both fs ns ms)

-- one field more that a constructor uses
pub used_more : (work : Work) → AreToldApart work.symbols.idents → (cs : List FieldShape) (fs : List (ModelField Identifier)) → AllMatch (IsField work) cs fs → (ns : List (Named Identifier)) (k : ℕ) (c : NamePart) (at : IsNameAt work ns k c) (old new : List code_use.FieldUse) (place : ℕ) →
    AllMatch IsUse old (used_fields fs (take k ns)) → place ≡ unwrap_or (position (λ f. nat_eq c.ident f.name.ident) cs) (length cs) → new ≡ old ++ record { field = place; occ = c.occ } ∷ [] → AllMatch IsUse new (used_fields fs (take (k + 1) ns))
used_more work apart cs fs fields ns k c at old new place so_far is e =
    let one : IsUse (record { field = place; occ = c.occ }) (record { field = field_position same_ident at.found.name fs; occ = at.found.occ }) = record { field = is ∙ place_is work apart c.ident at.found.name at.matches.0 cs fs fields; place = at.matches.1 } in
    subst (λ (l : List (Named Identifier)). AllMatch IsUse new (used_fields fs l)) (sym at.split)
    (subst (λ (l : List FieldUse). AllMatch IsUse new l) (sym (used_both fs (take k ns) (at.found ∷ [])))
    (subst (λ (l : List code_use.FieldUse). AllMatch IsUse l (used_fields fs (take k ns) ++ used_fields fs (at.found ∷ []))) (sym e)
    (matches_more IsUse old (used_fields fs (take k ns)) (record { field = place; occ = c.occ }) (record { field = field_position same_ident at.found.name fs; occ = at.found.occ }) so_far one)))

pub none_of : {A : Type 0} (o : Option A) → ((a : A) → o ≡ Some a → ⊥) → o ≡ None
none_of None h = refl
none_of (Some a) h = absurd (h a refl)
