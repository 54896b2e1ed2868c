use Rattle.std.proofs.Common.{refl}
use Rattle.mysql_steady_text.specs.KnownSets.{big5, euckr, gb18030, gb2312, gbk, sjis, ujis, utf8mb4}
use Rattle.mysql_steady_text.proofs.KnownSetLemmas.{kinds_client, single_client, reads_single}
use Rattle.mysql_steady_text.proofs.laws.guarded.client_sets.Goals as goal

pub returns : goal.returns
returns c = record {
  gbk = kinds_client gbk ((refl, tt), tt);
  big5 = kinds_client big5 ((refl, tt), tt);
  sjis = kinds_client sjis ((refl, tt), tt);
  euckr = kinds_client euckr ((refl, tt), tt);
  gb2312 = kinds_client gb2312 ((refl, tt), tt);
  gb18030 = kinds_client gb18030 ((refl, tt), ((refl, (refl, refl, (refl, refl, tt))), tt));
  ujis = kinds_client ujis ((refl, tt), ((refl, tt), ((refl, (refl, refl, tt)), tt)));
  utf8mb4 = kinds_client utf8mb4 ((refl, tt), ((refl, (refl, refl, tt)), ((refl, (refl, refl, (refl, refl, tt))), tt)));
  single = single_client;
  reads = reads_single;
}
