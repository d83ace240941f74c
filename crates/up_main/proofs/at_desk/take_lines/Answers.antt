use Rattle.std.proofs.Common.{refl}
use Rattle.up_service.specs.Together.{parts_compose}
use Rattle.up_service.proofs.Telling.{lines_told}
use Rattle.up_sockets.proofs.Pieces.{piece_taken}
use Rattle.up_main.specs.Clients.{Does}
use Rattle.up_main.proofs.at_desk.take_lines.Goals as goal

pub returns : goal.returns
returns g c =
    let b = c.requires.begun in
    let it = piece_taken _ (parts_compose _ _) (Does g.K.Scheme.rules g.D.Store)
    (λ old new lines texts gave. lines_told g.K.Scheme.rules g.D.Store c.vehicles_stand_apart.ensures.installed lines texts old new gave)
    c.args.piece.now _ _ _ _ _ _ c.take_piece.result c.take_piece.ensures.ok c.take_piece.ensures.err
    (record { own = b.own; short = b.short; few = b.few; none_past = b.none_past }) refl c.requires.few in
    record { lines = it.lines; texts = it.texts; done = it.done; whole = it.whole; told = it.told; begun = it.begun }
