-- The heads of units have what the units do, as these were listed, judged and worked on.
use Rattle.std.proofs.Common.{◌≡◌, ℕ, List, slice_get, Option, Some, None, refl, sym, ap, ◌∙◌}
use Rattle.std.specs.Option.{option_map}
use Rattle.std.proofs.lemmas.Option.{same_Some}
use Rattle.scheme_model.specs.Requirements.{LibraryName}
use Rattle.scheme_model.specs.Includes.{Document}
use Rattle.scheme_model.specs.IncludedUnits.{Placed}
use Rattle.scheme_tokens.specs.LibraryNames.{library_text}
use Rattle.core_tree.specs.Units.{kind_as, text_of}
use Rattle.read_documents.specs.declared.heads.Head.{Head}
use Rattle.read_documents.specs.Broken.{AreJudged}
use Rattle.unit_imports.specs.Collected.{AreHeadsOf}
use Rattle.read_documents.specs.Places.{HeadsStay, NamesKept}
use Rattle.document_units.specs.UnitsListed.{IsToldBy}

as_text : (o : Option LibraryName) → option_map library_text o ≡ text_of library_text o
as_text None = refl
as_text (Some n) = refl

pub heads_of : (ds : List Document) (us : List Placed) (a b d : List Head) → ((n : ℕ) (p : Placed) (h : Head) → slice_get us n ≡ Some p → slice_get a n ≡ Some h → IsToldBy ds n p h) → AreJudged us a b → HeadsStay a b → HeadsStay b d → NamesKept b d → AreHeadsOf library_text us d
heads_of ds us a b d told judged first later kept n u h there at =
    let k = kept.each n h at in
    let s = later.each n h at in
    let j = judged.each n k.0 k.1.0 in
    let f = first.each n k.0 k.1.0 in
    let t = told n u j.0 there j.1.0 in
    let is = j.1.1 u there in
    let one : s.0 ≡ k.0 = same_Some s.0 k.0 (sym s.1.0 ∙ k.1.0) in
    let two : f.0 ≡ j.0 = same_Some f.0 j.0 (sym f.1.0 ∙ j.1.0) in
    record {
      document = s.1.1.document ∙ (ap (λ (x : Head). x.document) one ∙ (f.1.1.document ∙ (ap (λ (x : Head). x.document) two ∙ t.document)));
      kind = ap kind_as (s.1.1.kind ∙ (ap (λ (x : Head). x.kind) one ∙ (f.1.1.kind ∙ ap (λ (x : Head). x.kind) two))) ∙ t.kind;
      name = k.1.1.0 ∙ (is.name ∙ (t.name ∙ as_text u.source.name));
      imports = k.1.1.1 ∙ is.imports;
      ranges =
          ap (λ rs. rs.items) (s.1.1.ranges ∙ (ap (λ (x : Head). x.ranges) one ∙ (f.1.1.ranges ∙ ap (λ (x : Head). x.ranges) two))) ∙ t.ranges;
    }
