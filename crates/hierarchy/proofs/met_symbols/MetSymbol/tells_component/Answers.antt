use Rattle.std.proofs.Common.{◌≡◌, true}
use Rattle.hierarchy.proofs.SourcelessLemmas.{no_sources}
use Rattle.hierarchy.proofs.met_symbols.MetSymbol.tells_component.Goals as goal

pub returns : goal.returns
returns c = λ told.
    let alone : c.is_alone.result ≡ true = let h = c.if-not-is_alone.false in cc in
    no_sources c.args.object.now c.args.self.now c.args.component.now c.has_free.result c.has_attached_source.result
    c.requires (c.is_alone.ensures alone) c.has_free.ensures c.if-has_free.false c.has_attached_source.ensures told
