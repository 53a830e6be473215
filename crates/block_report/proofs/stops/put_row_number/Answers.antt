use Rattle.block_report.proofs.Visible.{number_is_id}
use Rattle.block_report.proofs.stops.put_row_number.Goals as goal

pub returns-clause-visible : goal.returns-clause-visible
returns-clause-visible c = number_is_id c.args.number c.ranges.number.fits
