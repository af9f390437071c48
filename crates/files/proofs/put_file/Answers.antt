-- `files::put_file` meets its contract: the front, then the planes behind it. Assumes nothing.
use native.Mathlib.Omega.{arith}
use mathlib.Core.Path.{sym}
use Rattle.transport.proofs.Copied.{copied}
use Rattle.files.proofs.Filing.{ends, planes_long, file_put}
use Rattle.files.proofs.put_file.Goals as goal

pub slice_bounds-commit_uninit-count-2 : goal.slice_bounds-commit_uninit-count-2
slice_bounds-commit_uninit-count-2 c =
    ends c.requires

pub slice_bounds-commit_uninit-start-2 : goal.slice_bounds-commit_uninit-start-2
slice_bounds-commit_uninit-start-2 c =
    omega (arith, ends c.requires)

pub returns : goal.returns
returns c =
    file_put c.requires c.put_front.ensures (copied _ _ _ c.commit_uninit.result c.commit_uninit.ensures (sym (planes_long c.requires c.put_front.ensures)))
