-- The table by rows: a cell that is written stands behind those of its row, and changes no row before it; row by row is column by column.
use Prim.Native.Nat.{ℕ, zero, suc, ◌+◌, ◌*◌, ◌/◌, ◌≤◌, ◌<◌}
use mathlib.Core.Path.{◌≡◌, refl, sym, ap₂, ◌∙◌}
use mathlib.Core.Bool.{Bool, true}
use mathlib.Core.List.{List, [], ◌∷◌, ◌++◌, map-append}
use native.Mathlib.Omega.{arith}
use lib.ListN.{length, get_or, drop, set, length-append, length-set, length-drop, get_or-append}
use lib.Seq.{get_or-set_same, get_or-set_other, get_or_at, get_or-drop, take-suc}
use lib.Dec.{ltb}
use borrow.Author.Tests.{lt-ltb, ltb-true, ltb-false}
use Rattle.model.specs.Limits.{record_limits}
use Rattle.laws.proofs.Cases.{cond_cases}
use Rattle.rows.specs.Input.{column_of}
use Rattle.rows.specs.Table.{written, column_in}

-- the cells of a row in the columns before this one
unfoldable pub cells_to : ℕ → ℕ → List ℕ → List ℕ
cells_to zero row table = []
cells_to (suc column) row table = cells_to column row table ++ (get_or table (column * record_limits.packets + row) 0 ∷ [])

-- the rows before this one
unfoldable pub rows_to : ℕ → ℕ → List ℕ → List (List ℕ)
rows_to columns zero table = []
rows_to columns (suc row) table = rows_to columns row table ++ (cells_to columns row table ∷ [])

pub rows_length : (columns count : ℕ) (table : List ℕ) → length (rows_to columns count table) ≡ count
unfolding rows_to
rows_length columns zero table = refl
rows_length columns (suc row) table =
    length-append (rows_to columns row table) (cells_to columns row table ∷ []) ∙ (let l = rows_length columns row table in omega arith)

-- a cell of another row, or of a column further on
cells_other : (columns row place n : ℕ) (table : List ℕ) → ((column : ℕ) → column < columns → column * record_limits.packets + row ≡ place → ⊥)
    → cells_to columns row (set table place n) ≡ cells_to columns row table
unfolding cells_to
cells_other zero row place n table apart = refl
cells_other (suc column) row place n table apart =
    ap₂ (λ (cells : List ℕ) (cell : ℕ). cells ++ (cell ∷ []))
    (cells_other column row place n table (λ k h e. apart k (omega arith) e))
    (get_or-set_other table place (column * 2048 + row) n 0 (apart column (omega arith)))

rows_before : (columns column count row n : ℕ) (table : List ℕ) → row ≤ count → count < record_limits.packets
    → rows_to columns row (set table (column * record_limits.packets + count) n) ≡ rows_to columns row table
unfolding rows_to
rows_before columns column count zero n table before few = refl
rows_before columns column count (suc row) n table before few =
    ap₂ (λ (rows : List (List ℕ)) (row : List ℕ). rows ++ (row ∷ []))
    (rows_before columns column count row n table (omega arith) few)
    (cells_other columns row (column * 2048 + count) n table (λ k h e. omega arith))

-- a number written in the present row
module _ (columns column count n : ℕ) (table : List ℕ) (size : length table ≡ columns * record_limits.packets) (inside : column < columns) where
  written_in : count < record_limits.packets → written column count n table ≡ set table (column * record_limits.packets + count) n
  unfolding written
  written_in few = rw (lt-ltb count 2048 few, lt-ltb column (length table / 2048) (omega arith)) refl

  pub written_rows : count < record_limits.packets → rows_to columns count (written column count n table) ≡ rows_to columns count table
  written_rows few = rw (written_in few) (rows_before columns column count count n table (omega arith) few)

  pub written_cells : count < record_limits.packets → cells_to (suc column) count (written column count n table) ≡ cells_to column count table ++ (n ∷ [])
  unfolding cells_to
  written_cells few =
      rw (written_in few)
      (ap₂ (λ (cells : List ℕ) (cell : ℕ). cells ++ (cell ∷ []))
      (cells_other column count (column * 2048 + count) n table (λ k h e. omega arith))
      (get_or-set_same table (column * 2048 + count) n 0 (omega arith)))

pub written_length : (column count n : ℕ) (table : List ℕ) → length (written column count n table) ≡ length table
unfolding written
written_length column count n table =
    cond_cases (λ (l : List ℕ). length l ≡ length table) (ltb count 2048) _ _
    (λ t. cond_cases (λ (l : List ℕ). length l ≡ length table) (ltb column (length table / 2048)) _ _ (λ u. length-set table _ n) (λ u. refl))
    (λ t. refl)

cells_length : (columns row : ℕ) (table : List ℕ) → length (cells_to columns row table) ≡ columns
unfolding cells_to
cells_length zero row table = refl
cells_length (suc column) row table =
    length-append (cells_to column row table) (get_or table (column * 2048 + row) 0 ∷ []) ∙ (let l = cells_length column row table in omega arith)

cell_at : (columns column row : ℕ) (table : List ℕ) → column < columns → get_or (cells_to columns row table) column 0 ≡ get_or table (column * record_limits.packets + row) 0
unfolding cells_to
cell_at zero column row table inside = absurd (omega arith)
cell_at (suc columns) column row table inside =
    cond_cases (λ (t : Bool). get_or (cells_to (suc columns) row table) column 0 ≡ get_or table (column * 2048 + row) 0) (ltb column columns) true true
    (λ t. let before = ltb-true column columns t in
    let l = cells_length columns row table in
    get_or-append (cells_to columns row table) (get_or table (columns * 2048 + row) 0 ∷ []) 0 column (omega arith) ∙ cell_at columns column row table before)
    (λ t. let after = ltb-false column columns t in
    let is : column ≡ columns = omega arith in
    rw is (get_or_at (cells_to columns row table) (get_or table (columns * 2048 + row) 0) [] 0 columns (cells_length columns row table)))

-- row by row is column by column
pub column_rows : (columns column count : ℕ) (table : List ℕ) → length table ≡ columns * record_limits.packets → column < columns → count ≤ record_limits.packets
    → column_in column count table ≡ column_of column (rows_to columns count table)
unfolding rows_to
column_rows columns column zero table size inside few = refl
column_rows columns column (suc row) table size inside few =
    let here = drop (column * 2048) table in
    let long : row < length here = simp length-drop (omega arith) in
    take-suc here row 0 long
    ∙ ap₂ (λ (cells : List ℕ) (cell : ℕ). cells ++ (cell ∷ []))
    (column_rows columns column row table size inside (omega arith))
    (get_or-drop (column * 2048) table row 0 ∙ sym (cell_at columns column row table inside))
    ∙ sym (map-append (λ (r : List ℕ). get_or r column 0) (rows_to columns row table) (cells_to columns row table ∷ []))
