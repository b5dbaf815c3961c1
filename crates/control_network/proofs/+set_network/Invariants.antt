-- A network of fewer than two places: nothing. Else the parts one after the other; the size falls at each call.
-- Assumes nothing.
use Rattle.control_network.proofs.+set_network.Given as goal

abbrev pub decreases-set_network : goal.decreases-set_network
decreases-set_network l = l.net.size
