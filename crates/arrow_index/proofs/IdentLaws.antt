-- The walk from an identifier to what spells it.
use Rattle.std.proofs.Common.{◌≡◌, ◌<◌, ℕ, suc, List, [], length, slice_get, Option, Some, None, refl, sym, ap, ◌∙◌, subst, arith}
use Rattle.std.specs.Option.{option_map, option_map_or}
use Rattle.std.specs.BTreeMap.{get}
use Rattle.std.proofs.lemmas.Option.{same_Some, slice_get_within}
use Rattle.scheme_model.specs.declared.Occ.{Occ}
use Rattle.scheme_model.specs.Cores.{Target}
use Rattle.scheme_model.specs.Entries.{Entry, Origin, Source, StandardName, place_origin}
use Rattle.scheme_model.specs.Ident.{Ident as Identifier, Written, Inserted}
use Rattle.scheme_model.specs.Live.{CoreLeaf, NameUse}
use Rattle.scheme_model.specs.Meaning as model
use Rattle.scheme_model.specs.Meaning.{Meaning}
use Rattle.scheme_model.specs.Program.{UnitResult}
use Rattle.scheme_model.specs.Substitution.{Table, Defined, defined_in}
use Rattle.scheme_model.specs.Spelling.{entry_origins, defined_or, imported_origins, ident_origins}
use Rattle.syntax_tree.specs.Names.{Names}
use Rattle.syntax_tree.proofs.Places.{get_within}
use Rattle.syntax_tree.specs.Macros.{IsIdent}
use Rattle.syntax_tree.specs.Meant.{IsEntry, IsGivenMeaning, AreOrigins, IsSource}
use Rattle.syntax_tree.specs.Numbered.{ident_of, number_of}
use Rattle.syntax_tree.specs.declared.meaning.Meaning.TheVariants as code
use Rattle.syntax_tree.specs.declared.symbols.UseNo.{UseNo}
use Rattle.syntax_tree.specs.declared.symbols.Ident.TheVariants as entry
use Rattle.syntax_tree.specs.declared.trees.Work.{Work}
use Rattle.syntax_tree.specs.declared.units.Entry as code_entry
use Rattle.program_leaves.specs.declared.sight.Sight.{Sight}
use Rattle.program_leaves.specs.Placed.{global_cmp}
use Rattle.program_leaves.specs.Sights.{Sees}
use Rattle.program_leaves.specs.Entries.{IsEntryOf}

mapped_from : {A B : Type 0} (f : A → B) (o : Option A) (b : B) → option_map f o ≡ Some b → (a : A) × (o ≡ Some a) × (f a ≡ b)
mapped_from f None b h = absurd cc
mapped_from f (Some a) b h = (a, refl, same_Some (f a) b h)

pub written_is : (names : Names) (n u symbol : ℕ) (i : Identifier) → IsIdent names n i → slice_get names.idents n ≡ ident_of names (entry.Written u symbol) → (s : List ℕ) × (slice_get names.symbols symbol ≡ Some s) × (i ≡ Written u s)
written_is names n u symbol i at is =
    let s = mapped_from (Written u) (slice_get names.symbols symbol) i (sym is ∙ at) in
    (s.0, s.1, sym s.2)

pub inserted_is : (names : Names) (n id : ℕ) (k : UseNo) (i : Identifier) → IsIdent names n i → slice_get names.idents n ≡ ident_of names (entry.Inserted id k) → (j : Identifier) × IsIdent names id j × (i ≡ Inserted j (number_of k))
inserted_is names n id k i at is =
    let j = mapped_from (λ (x : Identifier). Inserted x (number_of k)) (slice_get names.idents id) i (sym is ∙ at) in
    (j.0, j.1, sym j.2)

-- ---- the loop

-- the identifier at which the walk is has the origins of that at which it began, whatever the table
abbrev pub Reached : Names → (start n : ℕ) → Table → List UnitResult → Type 0
Reached names start n table rs = (i : Identifier) → IsIdent names start i → (j : Identifier) × IsIdent names n j × (ident_origins table rs i ≡ ident_origins table rs j)

defined_some : (d : Option Defined) (o : Option Occ) (other : List Origin) → Some o ≡ option_map (λ (x : Defined). x.occ) d → place_origin o ≡ defined_or d other
defined_some None o other h = absurd cc
defined_some (Some d) o other h = ap place_origin (same_Some o d.occ h)

defined_none : (d : Option Defined) (other : List Origin) → None ≡ option_map (λ (x : Defined). x.occ) d → defined_or d other ≡ other
defined_none None other h = refl
defined_none (Some d) other h = absurd cc

module _ (work : Work) (sight : Sight) (leaves : List CoreLeaf) (keywords : List Target) (names : List NameUse) (table : Table) (rs : List UnitResult) (sees : Sees work sight leaves keywords names table) where
  pub written_defined : (n u symbol : ℕ) (j : Identifier) (o : Option Occ) → IsIdent work.symbols n j → slice_get work.symbols.idents n ≡ ident_of work.symbols (entry.Written u symbol) →
      Some o ≡ get global_cmp sight.definitions (record { unit = u; ident = n }) → place_origin o ≡ ident_origins table rs j
  written_defined n u symbol j o at is found =
      let w = written_is work.symbols n u symbol j at is in
      let known = found ∙ sees.definitions_are u n j at in
      let here : Some o ≡ option_map (λ (x : Defined). x.occ) (defined_in table u (Written u w.0)) = known ∙ ap (λ (x : Identifier). option_map (λ (d : Defined). d.occ) (defined_in table u x)) w.2 in
      defined_some (defined_in table u (Written u w.0)) o (imported_origins rs u w.0) here ∙ ap (ident_origins table rs) (sym w.2)

  pub written_given : (n u symbol : ℕ) (j : Identifier) → IsIdent work.symbols n j → slice_get work.symbols.idents n ≡ ident_of work.symbols (entry.Written u symbol) →
      None ≡ get global_cmp sight.definitions (record { unit = u; ident = n }) → (s : List ℕ) × (slice_get work.symbols.symbols symbol ≡ Some s) × (imported_origins rs u s ≡ ident_origins table rs j)
  written_given n u symbol j at is found =
      let w = written_is work.symbols n u symbol j at is in
      let known = found ∙ sees.definitions_are u n j at in
      let here : None ≡ option_map (λ (x : Defined). x.occ) (defined_in table u (Written u w.0)) = known ∙ ap (λ (x : Identifier). option_map (λ (d : Defined). d.occ) (defined_in table u x)) w.2 in
      (w.0, w.1, sym (ap (ident_origins table rs) w.2 ∙ defined_none (defined_in table u (Written u w.0)) (imported_origins rs u w.0) here))

  pub inserted_defined : (n id : ℕ) (k : UseNo) (j : Identifier) (o : Option Occ) → IsIdent work.symbols n j → slice_get work.symbols.idents n ≡ ident_of work.symbols (entry.Inserted id k) →
      Some o ≡ get global_cmp sight.definitions (record { unit = k.unit; ident = n }) → place_origin o ≡ ident_origins table rs j
  inserted_defined n id k j o at is found =
      let w = inserted_is work.symbols n id k j at is in
      let known = found ∙ sees.definitions_are k.unit n j at in
      let here : Some o ≡ option_map (λ (x : Defined). x.occ) (defined_in table k.unit (Inserted w.0 (number_of k))) = known ∙ ap (λ (x : Identifier). option_map (λ (d : Defined). d.occ) (defined_in table k.unit x)) w.2 in
      defined_some (defined_in table k.unit (Inserted w.0 (number_of k))) o (ident_origins table rs w.0) here ∙ ap (ident_origins table rs) (sym w.2)

  pub inserted_on : (start n id : ℕ) (k : UseNo) → Reached work.symbols start n table rs → slice_get work.symbols.idents n ≡ ident_of work.symbols (entry.Inserted id k) →
      None ≡ get global_cmp sight.definitions (record { unit = k.unit; ident = n }) → Reached work.symbols start id table rs
  inserted_on start n id k reached is found = λ i at.
      let r = reached i at in
      let w = inserted_is work.symbols n id k r.0 r.1 is in
      let known = found ∙ sees.definitions_are k.unit n r.0 r.1 in
      let here : None ≡ option_map (λ (x : Defined). x.occ) (defined_in table k.unit (Inserted w.0 (number_of k))) = known ∙ ap (λ (x : Identifier). option_map (λ (d : Defined). d.occ) (defined_in table k.unit x)) w.2 in
      (w.0, w.1, r.2 ∙ ap (ident_origins table rs) w.2 ∙ defined_none (defined_in table k.unit (Inserted w.0 (number_of k))) (ident_origins table rs w.0) here)

-- ---- entries

pub record Given (names : Names) (e : code_entry.Entry) (ps : List Origin) : Type 0 where
  pub meaning : Meaning
  pub means : IsGivenMeaning names e.meaning meaning
  pub origins : AreOrigins meaning e.origins ps

pub entry_given : (names : Names) (o : Option code_entry.Entry) (e : code_entry.Entry) (d : Option Entry) → o ≡ Some e → IsEntryOf names o d → Given names e (entry_origins d)
entry_given names None e d h g = absurd cc
entry_given names (Some f) e None h g = absurd g
entry_given names (Some f) e (Some d) h g =
    let i : IsEntry names e d = subst (λ (x : code_entry.Entry). IsEntry names x d) (same_Some f e h) g in
    record { meaning = d.meaning; means = i.meaning; origins = i.origins }

pub entry_none : (names : Names) (o : Option code_entry.Entry) (d : Option Entry) → o ≡ None → IsEntryOf names o d → entry_origins d ≡ []
entry_none names None None h g = refl
entry_none names None (Some d) h g = absurd g
entry_none names (Some f) d h g = absurd cc

-- ---- meanings

pub symbol_within : (names : Names) (n : ℕ) (m : Meaning) → IsGivenMeaning names (code.Standard n) m → n < length names.symbols
symbol_within names n (model.Local v) h = absurd (h 0 0)
symbol_within names n (model.Global u i) h = absurd (h 0 0)
symbol_within names n (model.Standard s) h = slice_get_within names.symbols n s (h 0 0)
symbol_within names n (model.Free s) h = absurd (h 0 0)

pub standard_source : (names : Names) (n : ℕ) (m : Meaning) (s : Source) → IsGivenMeaning names (code.Standard n) m → IsSource m None s → (t : List ℕ) × (slice_get names.symbols n ≡ Some t) × (s ≡ StandardName t)
standard_source names n (model.Local v) s h g = absurd (h 0 0)
standard_source names n (model.Global u i) s h g = absurd (h 0 0)
standard_source names n (model.Standard t) s h g = (t, h 0 0, g)
standard_source names n (model.Free t) s h g = absurd (h 0 0)

pub no_local : (names : Names) (n : ℕ) (m : Meaning) (s : Source) → IsGivenMeaning names (code.Local n) m → IsSource m None s → ⊥
no_local names n m s h g = subst (λ (x : Meaning). IsSource x None s) (h 0 0) g

pub no_global : (names : Names) (u n : ℕ) (m : Meaning) (s : Source) → IsGivenMeaning names (code.Global u n) m → IsSource m None s → ⊥
no_global names u n (model.Local v) s h g = g
no_global names u n (model.Global w i) s h g = g
no_global names u n (model.Standard t) s h g = h 0 0
no_global names u n (model.Free t) s h g = g

pub no_free : (names : Names) (n : ℕ) (m : Meaning) (s : Source) → IsGivenMeaning names (code.Free n) m → IsSource m None s → ⊥
no_free names n (model.Local v) s h g = g
no_free names n (model.Global w i) s h g = g
no_free names n (model.Standard t) s h g = h 0 0
no_free names n (model.Free t) s h g = g

-- ---- how many uses have inserted an identifier

abbrev depth : Identifier → ℕ
depth (Written u s) = 0
depth (Inserted i k) = suc (depth i)

abbrev pub depth_at : Names → ℕ → ℕ
depth_at names n = option_map_or depth (slice_get names.idents n) 0

pub less_deep : (names : Names) (n id : ℕ) (k : UseNo) → n < length names.idents → slice_get names.idents n ≡ ident_of names (entry.Inserted id k) → depth_at names id < depth_at names n
less_deep names n id k within is =
    let i = get_within names.idents n within in
    let j = inserted_is names n id k i.0 i.1 is in
    let outer : depth_at names n ≡ suc (depth j.0) = ap (λ (o : Option Identifier). option_map_or depth o 0) (i.1 ∙ ap Some j.2) in
    let inner : depth_at names id ≡ depth j.0 = ap (λ (o : Option Identifier). option_map_or depth o 0) j.1 in
    omega arith
