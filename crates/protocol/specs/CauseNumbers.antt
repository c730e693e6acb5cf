-- The paper's number of each cause of a refusal.
use Rattle.std.specs.Prelude.{ℕ}
use Rattle.protocol.specs.Causes.{not_a_transaction, already_open, not_open, not_of_grammar, content_over_limit, nodes_over_limit}
use Rattle.protocol.specs.Causes.{no_such_node, kind_not_allowed, content_not_allowed, held_number, place_not_allowed, no_more_nodes}
use Rattle.protocol.specs.Causes.{short_buffer, not_expressible, open_at_load, deadlock, no_more_commits, part_not_allowed}
use Rattle.protocol.specs.declared.causes.Cause.{Cause}
use Rattle.protocol.specs.declared.causes.Cause.TheVariants.{NotATransaction, AlreadyOpen, NotOpen, NotOfGrammar, ContentOverLimit, NodesOverLimit}
use Rattle.protocol.specs.declared.causes.Cause.TheVariants.{NoSuchNode, KindNotAllowed, ContentNotAllowed, HeldNumber, PlaceNotAllowed}
use Rattle.protocol.specs.declared.causes.Cause.TheVariants.{NoMoreNodes, ShortBuffer, NotExpressible, OpenAtLoad, Deadlock, NoMoreCommits}
use Rattle.protocol.specs.declared.causes.Cause.TheVariants.{PartNotAllowed}

abbrev pub number_of : Cause → ℕ
number_of NotATransaction = not_a_transaction
number_of AlreadyOpen = already_open
number_of NotOpen = not_open
number_of NotOfGrammar = not_of_grammar
number_of ContentOverLimit = content_over_limit
number_of NodesOverLimit = nodes_over_limit
number_of NoSuchNode = no_such_node
number_of KindNotAllowed = kind_not_allowed
number_of ContentNotAllowed = content_not_allowed
number_of HeldNumber = held_number
number_of PlaceNotAllowed = place_not_allowed
number_of NoMoreNodes = no_more_nodes
number_of ShortBuffer = short_buffer
number_of NotExpressible = not_expressible
number_of OpenAtLoad = open_at_load
number_of Deadlock = deadlock
number_of NoMoreCommits = no_more_commits
number_of PartNotAllowed = part_not_allowed
