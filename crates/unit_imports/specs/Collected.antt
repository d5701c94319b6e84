-- The units of a program as they are put together, each by its head and what it came to.
use Rattle.std.specs.Prelude.{◌≡◌, ℕ, List, [], All, length, slice_get, Option, Some, None}
use Rattle.scheme_model.specs.Requirements.{LibraryName}
use Rattle.scheme_model.specs.IncludedUnits.{Placed}
use Rattle.scheme_model.specs.Program.{Prepared, prepared}
use Rattle.core_tree.specs.Units.{IsBlank, imports_of, kind_as, ranges_from, text_of}
use Rattle.core_tree.specs.declared.units.Unit as code
use Rattle.unit_sources.specs.declared.units.UnitSource.{UnitSource}
use Rattle.unit_imports.specs.declared.expanded.Expanded.{Expanded}
use Rattle.read_documents.specs.declared.heads.Head.{Head}

-- a unit has what it came to
pub record Has (c : code.Unit) (e : Expanded) : Type 0 where
  pub forms : c.forms ≡ e.forms
  pub names : c.names ≡ e.names
  pub seconds : c.seconds ≡ e.seconds
  pub entries : c.entries ≡ e.entries.items
  pub exports : c.exports ≡ e.exports

-- nothing came of a unit but as many blank forms as were read
pub record IsNothing (count : ℕ) (e : Expanded) : Type 0 where
  pub blank : All IsBlank e.forms
  pub as_many : length e.forms ≡ count
  pub names : e.names ≡ []
  pub seconds : e.seconds ≡ []
  pub entries : e.entries.items ≡ []
  pub exports : e.exports ≡ []

-- one that is broken has as many blank forms as were read, and nothing else
pub record HasNothing (count : ℕ) (c : code.Unit) : Type 0 where
  pub blank : All IsBlank c.forms
  pub as_many : length c.forms ≡ count
  pub names : c.names ≡ []
  pub seconds : c.seconds ≡ []
  pub entries : c.entries ≡ []
  pub exports : c.exports ≡ []

abbrev pub HasCome : ℕ → Option Expanded → code.Unit → Type 0
HasCome count None c = HasNothing count c
HasCome count (Some e) c = Has c e

-- a unit by its head, where documents have these uris
pub record IsCollected (uris : List (List ℕ)) (h : Head) (s : UnitSource) (o : Option Expanded) (c : code.Unit) : Type 0 where
  pub uri : slice_get uris h.document ≡ Some c.uri
  pub kind : c.kind ≡ h.kind
  pub name : c.name ≡ h.name
  pub imports : c.imports ≡ h.imports
  pub ranges : c.ranges.items ≡ h.ranges.items
  pub come : HasCome (length s.forms) o c

-- all units, each at its place
pub record AreCollected (uris : List (List ℕ)) (hs : List Head) (ss : List UnitSource) (es : List (Option Expanded)) (cs : List code.Unit) : Type 0 where
  pub count : length cs ≡ length es
  pub each : (n : ℕ) (h : Head) (s : UnitSource) (o : Option Expanded) (c : code.Unit) → slice_get hs n ≡ Some h → slice_get ss n ≡ Some s → slice_get es n ≡ Some o → slice_get cs n ≡ Some c → IsCollected uris h s o c

-- ---- by the definition

-- a head has what its unit does, whose library's name is written so
pub record IsHeadOf (text : LibraryName → List ℕ) (p : Prepared) (h : Head) : Type 0 where
  pub document : h.document ≡ p.placed.document
  pub kind : kind_as h.kind ≡ p.placed.source.kind
  pub name : h.name ≡ text_of text p.placed.source.name
  pub imports : h.imports ≡ imports_of p
  pub ranges : h.ranges.items ≡ ranges_from p.number 0 p.forms

abbrev pub AreHeadsOf : (LibraryName → List ℕ) → List Placed → List Head → Type 0
AreHeadsOf text all hs = (n : ℕ) (u : Placed) (h : Head) → slice_get all n ≡ Some u → slice_get hs n ≡ Some h → IsHeadOf text (prepared all n u) h
