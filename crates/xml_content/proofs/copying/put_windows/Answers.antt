use Rattle.std.proofs.Common.{rules}
use Rattle.xml_content.specs.Laws.Copying.{copied}
use Rattle.xml_content.proofs.copying.put_windows.Goals as goal

pub returns : goal.returns
returns g c = search (copied, rules)
