-- The conditions one by one, from what the code's calls say.
use Rattle.std.proofs.Common.{◌≡◌, ◌⊎◌, inl, inr, ◌↔◌, ℕ, zero, suc, ◌<◌, ◌==◌, List, [], ◌∷◌, ◌++◌, map, filter, length, Bool, true, false, Option, Some, None, Result, Ok, Err, cond, refl, sym, ap, ◌∙◌, subst, arith}
use Rattle.std.specs.Prelude.{◌&&◌}
use Rattle.std.specs.Option.{ok_or, option_map}
use Rattle.ls_base.specs.declared.encoding.Encoding.{Encoding}
use Rattle.ls_base.specs.declared.places.Pos.{Pos}
use Rattle.scheme_model.specs.declared.Occ.{Occ}
use Rattle.scheme_model.specs.Answers.{Facts, bytes_before, ordered_by}
use Rattle.scheme_model.specs.Diagnostics.{bytes_of}
use Rattle.scheme_model.specs.Entries.{is_below}
use Rattle.scheme_model.specs.Sites.{name_at}
use Rattle.scheme_model.specs.Spelling.{class_of, is_joined, standard_origins}
use Rattle.document_store.specs.Texts.{Document}
use Rattle.read_documents.specs.Places.{spans_of}
use Rattle.read_documents.specs.Readings.{Read, AreReadAs, program_in}
use Rattle.program_answers.specs.Classed.{IsClassAt, IsClassOf, head_of, standard_for}
use Rattle.program_answers.specs.ToldAnswers.{document_at, facts_in, name_by, name_there, number_of, text_of}
use Rattle.program_answers.specs.declared.classes.Class.{Class}
use Rattle.program_answers.specs.declared.classes.ClassPart.{ClassPart}
use Rattle.class_edits.specs.Clashes.{clashes as code_clashes}
use Rattle.rename_model.specs.Reach.{in_reach}
use Rattle.rename_conditions.specs.Opened.{class_in}
use Rattle.rename_conditions.specs.Renames.{Refusal, NotBound, IsStandard, unless, first_of, joined_at, standard_names, clashes, errors_in_reach}
use Rattle.rename_planner.specs.Planning.{ComesTo, Holds, errors_in}
use Rattle.rename_answers.specs.ReadDocuments.{read_as}
use Rattle.rename_answers.specs.RenameOutcomes.{IsFaultOf}
use Rattle.rename_answers.specs.ToldRenames.{identifier_at, identifier_by}
use Rattle.rename_answers.specs.declared.faults.RenameFault.{RenameFault}
use Rattle.rename_answers.specs.declared.faults.RenameFault.TheVariants as faults
use Rattle.rename_planner.proofs.BindLaws.{fault_refuses}
use Rattle.rename_answers.proofs.ConditionLaws.{IsNumbered, clashing_same, from_first, standards_same}
use Rattle.rename_answers.proofs.MemberLaws.{parts_members, reach_same}
use Rattle.rename_answers.proofs.SpansRead.{spans_as}
use Rattle.ls_base.specs.Positions.{offset_of}

-- ---- the class

pub class_there : (e : Encoding) (ds : List (List ℕ × Document)) (f : Facts) (at : Option Occ) (c : Class) → IsClassAt ds f at (Some c) → ComesTo e ds (IsClassOf ds f) (ok_or (joined_at f.links at) NotBound) (Ok c)
class_there e ds f None c h = absurd h
class_there e ds f (Some o) c h = subst (λ (b : Bool). ComesTo e ds (IsClassOf ds f) (ok_or (cond b (Some o) None) NotBound) (Ok c)) (sym h.joined) h

pub no_class : (e : Encoding) (ds : List (List ℕ × Document)) (f : Facts) (at : Option Occ) → IsClassAt ds f at None → ComesTo e ds (IsClassOf ds f) (ok_or (joined_at f.links at) NotBound) (Err faults.NotBound)
no_class e ds f None h = refl
no_class e ds f (Some o) h = subst (λ (b : Bool). ComesTo e ds (IsClassOf ds f) (ok_or (cond b (Some o) None) NotBound) (Err faults.NotBound)) (sym h) refl

-- a class has a document
pub bound_document : (e : Encoding) (ds : List (List ℕ × Document)) (rs : List Read) (uri : List ℕ) (position : Pos) (c : Class) →
    ComesTo e ds (IsClassOf ds (facts_in rs)) (ok_or (joined_at (facts_in rs).links (name_there e ds rs uri position)) NotBound) (Ok c) → 0 < length ds
bound_document e [] rs uri position c h = absurd h
bound_document e (d ∷ ds) rs uri position c h = omega arith

-- ---- standard names

pub standard_first : (ds : List (List ℕ × Document)) (rs : List Read) (o : Occ) → first_of (standard_names (read_as ds rs) o) ≡ standard_for (facts_in rs) (Some o)
standard_first ds rs o = ap (λ (names : List (List ℕ)). head_of (ordered_by is_below names)) (standards_same (facts_in rs).links (class_of (facts_in rs).links o))

-- ---- documents by their numbers

pub document_refuses : (B : Type 0) (e : Encoding) (ds : List (List ℕ × Document)) (uri : List ℕ) (o : Option ℕ) (why : ℕ → Refusal) (fault : RenameFault) →
    IsNumbered 0 ds (Some uri) o → ((m : ℕ) → uri ≡ (document_at ds m).0 → IsFaultOf e ds (why m) fault) → ComesTo {B = B} e ds Holds (unless o why) (Err fault)
document_refuses B e ds uri None why fault h told = absurd h
document_refuses B e ds uri (Some m) why fault h told = fault_refuses e ds (why m) fault (told m (from_first ds uri m h))

pub no_document : {B : Type 0} (e : Encoding) (ds : List (List ℕ × Document)) (o : Option ℕ) (why : ℕ → Refusal) (b : B) → IsNumbered 0 ds None o → ComesTo e ds Holds (unless o why) (Ok b)
no_document e ds None why b h = tt
no_document e ds (Some m) why b h = absurd h

-- ---- the identifier at a position

pub identifier_same : (e : Encoding) (ds : List (List ℕ × Document)) (rs : List Read) (uri : List ℕ) (position : Pos) → identifier_at e ds (read_as ds rs) uri position ≡ name_there e ds rs uri position
identifier_same e ds rs uri position = by (number_of ds uri)
  where
    by : (n : Option ℕ) → identifier_by e ds (read_as ds rs) n position ≡ name_by e ds rs n position
    by None = refl
    by (Some n) = ap (λ spans. name_at spans (program_in rs).units n (offset_of e (text_of ds n) position)) (spans_as rs)

-- ---- what a mapped option has

pub mapped_some : {A B : Type 0} (f : A → B) (o : Option A) (y : B) → option_map f o ≡ Some y → (x : A) × (o ≡ Some x) × (y ≡ f x)
mapped_some f None y h = absurd cc
mapped_some f (Some x) y h = (x, refl, cc)

pub mapped_none : {A B : Type 0} (f : A → B) (o : Option A) → option_map f o ≡ None → o ≡ None
mapped_none f None h = refl
mapped_none f (Some x) h = absurd cc

-- ---- the members with two prefixes

pub clashes_same : (ds : List (List ℕ × Document)) (rs : List Read) (o : Occ) → clashes (read_as ds rs) o ≡ code_clashes (facts_in rs) o
clashes_same ds rs o = λ j. ordered_by bytes_before (map (bytes_of (spans_as rs j) (program_in rs).units) (clashing_same (facts_in rs).links (class_of (facts_in rs).links o) j))

-- ---- the units in reach

pub reach_errors : (ds : List (List ℕ × Document)) (rs : List Read) (o : Occ) (c : Class) (units : List ℕ) → IsClassOf ds (facts_in rs) o c → units ≡ in_reach (program_in rs).units (map (λ (p : ClassPart). p.occ) c.parts) →
    errors_in (read_as ds rs) units ≡ errors_in_reach (read_as ds rs) o
reach_errors ds rs o c units is e =
    ap (errors_in (read_as ds rs)) (e ∙ reach_same (map (λ (p : ClassPart). p.occ) c.parts) (class_in (read_as ds rs) o) (parts_members (facts_in rs).links o c.parts is.parts) (program_in rs).units)
