-- The whole array is lent. It is too long for a search, which would count its bytes one by one.
use Rattle.std.proofs.Common.{ℕ, sym}
use lib.ListN.{length-replicate}
use Rattle.vectors.proofs.main.Goals as goal

pub slice_bounds-run_file-end : goal.slice_bounds-run_file-end
slice_bounds-run_file-end c = sym (length-replicate {0} {A = ℕ} 1048576 0)
