-- What a commit, the n-th, or an abort does to the marks of a node; the locks of the transaction are released on their own.
use Rattle.std.specs.Prelude.{ℕ, ◌+◌, Bool, cond, List, eqb}
use Rattle.protocol.specs.State.{nobody, writer_of, saved_of, Marked, Tree, seen_by, count_touched, lasting, undone, commit_tree}
use Rattle.protocol.specs.State.{abort_tree, ended}
use Rattle.table.specs.Fields.{field, with_field, with_bytes}
use Rattle.table.specs.Layout.{Entry, Left, header}
use Rattle.rows.specs.Rows.{not_inserted_by}
use Rattle.ends.specs.declared.pass.Ending.{Ending}
use Rattle.ends.specs.declared.pass.Ending.TheVariants.{Lasting, Undone}

-- what an end keeps, what it leaves of that, and the tree
abbrev pub stays : Ending → ℕ → Marked → Bool
stays (Lasting n) t = seen_by t
stays Undone t = not_inserted_by t

abbrev pub at_end : Ending → ℕ → Marked → Marked
at_end (Lasting n) t = lasting n t
at_end Undone t = undone t

abbrev pub end_tree : Ending → ℕ → Tree → Tree
end_tree (Lasting n) t f = commit_tree n t f
end_tree Undone t f = abort_tree t f

-- mark o (1 writer, 2 inserter, 3 deleter) of t is nobody's
abbrev pub without_mark : ℕ → ℕ → Marked → Marked
without_mark o t a = cond (eqb (field o a) t) (with_field o nobody a) a

-- the saved content again where t wrote the node
abbrev pub rewritten : ℕ → Marked → Marked
rewritten t a = with_bytes (cond (eqb (writer_of a.update) t) (saved_of a.update) a.now.content) a

-- what t wrote and inserted is everybody's and bears the count; what t wrote and deleted is as before
abbrev pub ended_marks : Ending → ℕ → Marked → Marked
ended_marks (Lasting n) t a = without_mark 2 t (without_mark 1 t (count_touched n t a))
ended_marks Undone t a = without_mark 3 t (without_mark 1 t (rewritten t a))

-- the three marks added: 0 where nobody has one
abbrev pub marks_sum : Marked → ℕ
marks_sum a = writer_of a.update + a.inserter + a.deleter

-- what closing t leaves: these nodes, the others open as they were, t waiting for nobody and nobody for t
abbrev pub Closed : ℕ → List ℕ → List ℕ → List Entry → Type 0
Closed t s s' ns = Left s s' (ended t (header s)) ns
