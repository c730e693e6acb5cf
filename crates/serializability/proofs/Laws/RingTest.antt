-- The test for a ring of transactions finds just the rings.
use Rattle.protocol.specs.Rings.{in_ring}
use Rattle.serializability.specs.Theorem.{RingTest}
use Rattle.serializability.proofs.Laws.Rings.{found_path, path_found}

pub ring_test : RingTest
unfolding in_ring
ring_test r h t = (found_path r 16 t t, path_found r h t)
