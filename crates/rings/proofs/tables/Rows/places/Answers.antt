use Rattle.rings.proofs.Built.{table_fits}
use Rattle.rings.proofs.tables.Rows.places.Goals as goal

pub returns-clause-few : goal.returns-clause-few
returns-clause-few c = table_fits c.args.self.now.log c.args.self.now.half c.args.self.now.few.1 c.args.self.now.size
