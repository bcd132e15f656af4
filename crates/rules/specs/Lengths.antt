-- Rules 1 and 2 on lengths alone: the table that is refused, 0 where none is.
use Rattle.std.specs.Prelude.{Bool, true, false, not, ℕ, zero, suc, eqb, ltb, length, Option, Some, None}
use Rattle.meaning.specs.Words.{or}
use Rattle.meaning.specs.Rows.{Tables}
use Rattle.meaning.specs.Answer.{Answer, Limits, refuse}

-- how long the columns of tables 1 to 4 are
pub record Lengths : Type 0 where
  pub time : ℕ
  pub birth : ℕ
  pub population : ℕ
  pub left : ℕ
  pub right : ℕ
  pub parent : ℕ
  pub child : ℕ
  pub position : ℕ
  pub ancestral : ℕ
  pub site : ℕ
  pub node : ℕ
  pub derived : ℕ

abbrev pub lengths_of : Tables → Lengths
lengths_of T = record {
  time = length T.nodes.time;
  birth = length T.nodes.birth;
  population = length T.nodes.population;
  left = length T.edges.left;
  right = length T.edges.right;
  parent = length T.edges.parent;
  child = length T.edges.child;
  position = length T.sites.position;
  ancestral = length T.sites.ancestral;
  site = length T.muts.site;
  node = length T.muts.node;
  derived = length T.muts.derived;
}

abbrev pub unlike : ℕ → ℕ → Bool
unlike a b = not (eqb a b)

-- the table t where the test holds, and else what comes after
abbrev pub table_if : Bool → ℕ → ℕ → ℕ
table_if true t rest = t
table_if false t rest = rest

-- 1: the lowest table of 1 to 4 whose columns differ in length
unfoldable pub ragged_table : Lengths → ℕ
ragged_table n =
    table_if (or (unlike n.birth n.time) (unlike n.population n.time)) 1
    (table_if (or (unlike n.right n.left) (or (unlike n.parent n.left) (unlike n.child n.left))) 2
    (table_if (unlike n.ancestral n.position) 3
    (table_if (or (unlike n.node n.site) (unlike n.derived n.site)) 4 0)))

-- 2: the lowest table of 1 to 4 with too many rows
unfoldable pub large_table : Limits → ℕ → ℕ → ℕ → ℕ → ℕ
large_table m nodes edges sites mutations =
    table_if (ltb m.nodes nodes) 1
    (table_if (ltb m.edges edges) 2
    (table_if (ltb m.sites sites) 3
    (table_if (ltb m.mutations mutations) 4 0)))

-- the table that is refused, where it is no 0
unfoldable pub table_of : ℕ → Option ℕ
table_of zero = None
table_of (suc t) = Some (suc t)

-- the answer with the table's number as its row, where it is no 0
abbrev pub refuse_table : ℕ → ℕ → Answer → Answer
refuse_table n t rest = refuse (not (eqb t 0)) n t rest
