-- What was set aside in the code stands for an item of the same kind.
use Rattle.std.proofs.Common.{◌≡◌, ℕ, Bool, Option, ap, subst, arith, Vec}
use Rattle.std.specs.declared.alloc.Global.{Global}
use Rattle.scheme_model.specs.declared.Occ.{Occ}
use Rattle.scheme_model.specs.ExpansionFaults.{Named}
use Rattle.scheme_model.specs.Cores.{Binder, Binders, RecordType}
use Rattle.scheme_model.specs.Order.{Form, Item}
use Rattle.scheme_model.specs.Order as model
use Rattle.scheme_model.specs.Shapes.{Clause}
use Rattle.scheme_model.specs.Expression.{meaning_of}
use Rattle.scheme_model.specs.Ident.{Ident as Identifier}
use Rattle.syntax_tree.specs.Meant.{IsMeaning}
use Rattle.syntax_tree.specs.declared.meaning.Meaning as code_meaning
use Rattle.syntax_tree.specs.declared.trees.Work.{Work}
use Rattle.syntax_tree.specs.declared.trees.table.Region.{Region}
use Rattle.core_forms.specs.Parts.{IsName}
use Rattle.core_forms.specs.declared.shape.ClauseShape as code_clause
use Rattle.core_forms.specs.declared.shape.NamePart as code_name
use Rattle.core_tree.specs.Names.{AllMatch, IsBinder, IsField}
use Rattle.core_tree.specs.Cores.{AreBinders}
use Rattle.core_tree.specs.declared.cores.Binder as code_binder
use Rattle.core_tree.specs.declared.cores.FieldUse as code_field
use Rattle.unit_scopes.specs.Kept.{FormFor, ClauseFor, KeptFor}
use Rattle.form_parts.specs.declared.items.Form as code_form
use Rattle.form_parts.specs.declared.items.Kept as code_kept
use Rattle.form_parts.specs.declared.items.Kept.TheVariants as kept

abbrev kind : Item Identifier → ℕ
kind (model.Expression m) = 0
kind (model.Value b m) = 1
kind (model.Function b here c) = 2
kind (model.Assigned n m) = 3
kind (model.AssignedFunction n here c) = 4
kind (model.ValuesOf bs m) = 5
kind (model.Record r) = 6
kind (model.Macro b here) = 7

abbrev code_kind : code_kept.Kept → ℕ
code_kind (kept.Expression f) = 0
code_kind (kept.Value b f) = 1
code_kind (kept.Function b here c) = 2
code_kind (kept.Assigned n f) = 3
code_kind (kept.AssignedFunction n here c) = 4
code_kind (kept.Values bs dotted f) = 5
code_kind (kept.Record bs fs ms us) = 6
code_kind (kept.Macro b m) = 7

module _ (work : Work) (region : Region) (unit form : ℕ) where
  same_kind : (k : code_kept.Kept) (i : Item Identifier) → KeptFor work region unit form k i → code_kind k ≡ kind i
  same_kind k (model.Expression m) h = ap code_kind h.1
  same_kind k (model.Value b m) h = ap code_kind h.2
  same_kind k (model.Function b here c) h = ap code_kind h.2
  same_kind k (model.Assigned n m) h = ap code_kind h.2
  same_kind k (model.AssignedFunction n here c) h = ap code_kind h.2
  same_kind k (model.ValuesOf bs m) h = ap code_kind h.3
  same_kind k (model.Record r) h = ap code_kind h.4
  same_kind k (model.Macro b here) h = ap code_kind h.2

  module _ (P : Item Identifier → Type 0) where
    pub as_expression : (f : code_form.Form) (i : Item Identifier) → KeptFor work region unit form (kept.Expression f) i → ((m : Form Identifier) → FormFor work region f m → P (model.Expression m)) → P i
    as_expression f (model.Expression m) h g = let at = h.1 in let e : h.0 ≡ f = cc in g m (subst (λ (x : code_form.Form). FormFor work region x m) e h.2)
    as_expression f i h g = let k = same_kind (kept.Expression f) i h in absurd (omega (arith, k))

    pub as_value : (b : code_binder.Binder) (f : code_form.Form) (i : Item Identifier) → KeptFor work region unit form (kept.Value b f) i →
        ((d : Binder) (m : Form Identifier) → IsBinder work.symbols unit form b d → FormFor work region f m → P (model.Value d m)) → P i
    as_value b f (model.Value d m) h g =
        let at = h.2 in
        let x : h.0 ≡ b = cc in
        let y : h.1 ≡ f = cc in
        g d m (subst (λ (x : code_binder.Binder). IsBinder work.symbols unit form x d) x h.3) (subst (λ (x : code_form.Form). FormFor work region x m) y h.4)
    as_value b f i h g = let k = same_kind (kept.Value b f) i h in absurd (omega (arith, k))

    pub as_function : (b : code_binder.Binder) (here : Option Occ) (c : code_clause.ClauseShape) (i : Item Identifier) → KeptFor work region unit form (kept.Function b here c) i →
        ((d : Binder) (m : Clause Identifier) → IsBinder work.symbols unit form b d → ClauseFor work region c m → P (model.Function d here m)) → P i
    as_function b here c (model.Function d there m) h g =
        let at = h.2 in
        let x : h.0 ≡ b = cc in
        let y : h.1 ≡ c = cc in
        let z : here ≡ there = cc in
        subst (λ (o : Option Occ). P (model.Function d o m)) z
        (g d m (subst (λ (x : code_binder.Binder). IsBinder work.symbols unit form x d) x h.3) (subst (λ (x : code_clause.ClauseShape). ClauseFor work region x m) y h.4))
    as_function b here c i h g = let k = same_kind (kept.Function b here c) i h in absurd (omega (arith, k))

    pub as_assigned : (n : code_name.NamePart) (f : code_form.Form) (i : Item Identifier) → KeptFor work region unit form (kept.Assigned n f) i →
        ((d : Named Identifier) (m : Form Identifier) → IsName work n d → FormFor work region f m → P (model.Assigned d m)) → P i
    as_assigned n f (model.Assigned d m) h g =
        let at = h.2 in
        let x : h.0 ≡ n = cc in
        let y : h.1 ≡ f = cc in
        g d m (subst (λ (x : code_name.NamePart). IsName work x d) x h.3) (subst (λ (x : code_form.Form). FormFor work region x m) y h.4)
    as_assigned n f i h g = let k = same_kind (kept.Assigned n f) i h in absurd (omega (arith, k))

    pub as_assigned_function : (n : code_name.NamePart) (here : Option Occ) (c : code_clause.ClauseShape) (i : Item Identifier) → KeptFor work region unit form (kept.AssignedFunction n here c) i →
        ((d : Named Identifier) (m : Clause Identifier) → IsName work n d → ClauseFor work region c m → P (model.AssignedFunction d here m)) → P i
    as_assigned_function n here c (model.AssignedFunction d there m) h g =
        let at = h.2 in
        let x : h.0 ≡ n = cc in
        let y : h.1 ≡ c = cc in
        let z : here ≡ there = cc in
        subst (λ (o : Option Occ). P (model.AssignedFunction d o m)) z
        (g d m (subst (λ (x : code_name.NamePart). IsName work x d) x h.3) (subst (λ (x : code_clause.ClauseShape). ClauseFor work region x m) y h.4))
    as_assigned_function n here c i h g = let k = same_kind (kept.AssignedFunction n here c) i h in absurd (omega (arith, k))

    pub as_values : (bs : Vec code_binder.Binder Global) (dotted : Bool) (f : code_form.Form) (i : Item Identifier) → KeptFor work region unit form (kept.Values bs dotted f) i →
        ((ds : Binders) (m : Form Identifier) → AreBinders work unit form bs dotted ds → FormFor work region f m → P (model.ValuesOf ds m)) → P i
    as_values bs dotted f (model.ValuesOf ds m) h g =
        let at = h.3 in
        let x : h.0 ≡ bs = cc in
        let y : h.1 ≡ dotted = cc in
        let z : h.2 ≡ f = cc in
        g ds m (subst (λ (b : Bool). AreBinders work unit form bs b ds) y (subst (λ (l : Vec code_binder.Binder Global). AreBinders work unit form l h.1 ds) x h.4)) (subst (λ (x : code_form.Form). FormFor work region x m) z h.5)
    as_values bs dotted f i h g = let k = same_kind (kept.Values bs dotted f) i h in absurd (omega (arith, k))

    pub as_record : (bs fs : Vec code_binder.Binder Global) (ms : Vec ℕ Global) (us : Vec code_field.FieldUse Global) (i : Item Identifier) → KeptFor work region unit form (kept.Record bs fs ms us) i →
        ((r : RecordType) → AllMatch (IsBinder work.symbols unit form) bs.items r.binders → AllMatch (IsBinder work.symbols unit form) fs.items r.fields → ms.items ≡ r.modified → AllMatch IsField us.items r.used → P (model.Record r)) → P i
    as_record bs fs ms us (model.Record r) h g =
        let at = h.4 in
        let x : h.0 ≡ bs = cc in
        let y : h.1 ≡ fs = cc in
        let z : h.2 ≡ ms = cc in
        let w : h.3 ≡ us = cc in
        g r (subst (λ (l : Vec code_binder.Binder Global). AllMatch (IsBinder work.symbols unit form) l.items r.binders) x h.5)
        (subst (λ (l : Vec code_binder.Binder Global). AllMatch (IsBinder work.symbols unit form) l.items r.fields) y h.6)
        (subst (λ (l : Vec ℕ Global). l.items ≡ r.modified) z h.7) (subst (λ (l : Vec code_field.FieldUse Global). AllMatch IsField l.items r.used) w h.8)
    as_record bs fs ms us i h g = let k = same_kind (kept.Record bs fs ms us) i h in absurd (omega (arith, k))

    pub as_macro : (b : code_binder.Binder) (m : code_meaning.Meaning) (i : Item Identifier) → KeptFor work region unit form (kept.Macro b m) i →
        ((d : Binder) (here : Option Occ) → IsBinder work.symbols unit form b d → IsMeaning work.symbols unit form m (meaning_of d.bound d.ident) → P (model.Macro d here)) → P i
    as_macro b m (model.Macro d here) h g =
        let at = h.2 in
        let x : h.0 ≡ b = cc in
        let y : h.1 ≡ m = cc in
        g d here (subst (λ (x : code_binder.Binder). IsBinder work.symbols unit form x d) x h.3) (subst (λ (x : code_meaning.Meaning). IsMeaning work.symbols unit form x (meaning_of d.bound d.ident)) y h.4)
    as_macro b m i h g = let k = same_kind (kept.Macro b m) i h in absurd (omega (arith, k))
