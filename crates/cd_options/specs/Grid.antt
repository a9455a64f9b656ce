-- The generated problem: atoms of a grid that lead from its first corner to its last one.
use Rattle.std.specs.Prelude.{ℕ, zero, suc, ◌+◌, ◌*◌, List, [], ◌∷◌, ◌++◌, codes, Ok}
use Rattle.cd_outside.specs.Shelf.{bytes_of}
use Rattle.cd_read.specs.declared.problem.Problem.{Problem}
use Rattle.cd_read.specs.Fetched.{AreWhole, Holds}
use Rattle.cd_read.specs.Files.{File, Reads}
use Rattle.cd_text.specs.Numerals.{numeral}

unfoldable pub grid_name : ℕ → List ℕ
grid_name n = codes "grid" ++ numeral n

-- the atom in column i and row k
unfoldable pub atom_text : ℕ → ℕ → List ℕ
atom_text i k = codes "r(c" ++ (numeral i ++ (codes ",d" ++ (numeral k ++ codes ")")))

-- an atom where another one holds, and that one does not
unfoldable pub leads_text : ℕ → ℕ → ℕ → ℕ → List ℕ
leads_text i k j l = codes "~" ++ (atom_text i k ++ (codes "|" ++ atom_text j l))

unfoldable pub denial_text : ℕ → ℕ → List ℕ
denial_text i k = codes "~" ++ atom_text i k

-- the statement with the label g and this number
unfoldable pub statement_text : ℕ → List ℕ → List ℕ
statement_text m clause = codes "cnf(g" ++ (numeral m ++ (codes ",axiom," ++ (clause ++ codes ").\n")))

-- in column i from row 0 to row 1, and from it in both rows to the next column
unfoldable pub column_text : ℕ → List ℕ
column_text i =
    statement_text (3 * i + 1) (leads_text i 0 i 1) ++ (statement_text (3 * i + 2) (leads_text i 0 (i + 1) 0) ++ statement_text (3 * i + 3) (leads_text i 1 (i + 1) 1))

abbrev pub columns_text : ℕ → List ℕ
columns_text zero = []
columns_text (suc i) = columns_text i ++ column_text i

-- the whole file
unfoldable pub grid_text : ℕ → List ℕ
grid_text n =
    statement_text 0 (atom_text 0 0) ++ (columns_text n ++ (statement_text (3 * n + 1) (leads_text n 0 n 1) ++ statement_text (3 * n + 2) (denial_text n 1)))

-- a library that holds this file alone
abbrev pub holding : ℕ → Holds
holding n = bytes_of ((grid_name n, grid_text n) ∷ [])

-- what reading that file comes to
abbrev pub IsGrid : ℕ → Problem → Type 0
IsGrid n p = (files : List File) × AreWhole (holding n) files × Reads files (grid_name n) (Ok p)
