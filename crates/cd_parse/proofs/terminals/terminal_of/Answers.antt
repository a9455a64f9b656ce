use Rattle.std.proofs.Common.{sym, subst}
use Rattle.std.specs.Str.{IsAscii}
use Rattle.cd_lex.specs.declared.TokenKind.{TokenKind}
use Rattle.cd_lex.specs.Tokens.{IsToken}
use Rattle.cd_parse.proofs.AsciiLemmas.{content_ascii, quoted_ascii}
use Rattle.cd_parse.proofs.terminals.terminal_of.Goals as goal

pub unescaped-requires : goal.unescaped-requires
unescaped-requires c = record {
  ascii = subst IsAscii (sym c.content.ensures)
      (content_ascii c.args.token.now.slice.now (quoted_ascii c.args.token.now.slice.now (subst (λ (k : TokenKind). IsToken k c.args.token.now.slice.now) c.in-Quoted.is c.requires.is)));
}
