use Rattle.std.proofs.Common.{arith}
use Rattle.directory.proofs.MadPlaces.{mad_listed}
use Rattle.directory.proofs.Searching.{lowest_some}
use Rattle.directory.proofs.accepted.Applications.nscp_sector.Goals as goal

pub overflow_add-sector : goal.overflow_add-sector
overflow_add-sector c = record { fits = grind (arith, lowest_some, mad_listed c.args.self.now.profile) }
