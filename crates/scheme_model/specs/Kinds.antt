-- The kinds of tokens (R7RS 7.1.1), and tokens with their places. A text is a list of characters; places in it count bytes.
use Rattle.std.specs.Prelude.{ℕ, List, Bool}

-- an atom that one token spells; `bars` tells of a name that it stands between bars
pub data Leaf : Type 0 where
  Name : (name : List ℕ) (bars : Bool) → Leaf
  Numeral : (text : List ℕ) → Leaf
  Quoted : (text : List ℕ) → Leaf
  Character : ℕ → Leaf
  Truth : Bool → Leaf

-- a mark that abbreviates a list with the datum after it: ' ` , ,@
pub data Mark : Type 0 where
  Quote : Mark
  Quasi : Mark
  Unquote : Mark
  Splice : Mark

-- what else stands alone: ( #( #u8( ) . and #;
pub data TokenKind : Type 0 where
  Paren : TokenKind
  VectorParen : TokenKind
  BytesParen : TokenKind
  Close : TokenKind
  Dot : TokenKind
  Skip : TokenKind
  Marked : Mark → TokenKind
  Atomic : Leaf → TokenKind

-- a token and its bytes in the text
pub record Token : Type 0 where
  pub kind : TokenKind
  pub start : ℕ
  pub end : ℕ
